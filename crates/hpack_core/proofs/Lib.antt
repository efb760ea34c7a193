pub mod TableLemmas
pub mod StaticLemmas
pub mod WritingLemmas
pub mod WritingLaws
pub mod BlockLemmas
pub mod StringLaws
pub mod BlockLaws
pub mod BlockOnly
