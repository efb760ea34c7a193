pub mod FaultLaw
pub mod BodyLaw
pub mod GivenLaw
pub mod StageLaw
pub mod EndLaw
