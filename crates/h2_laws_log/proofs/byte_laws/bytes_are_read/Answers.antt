-- Step by step.
use Rattle.h2_laws_log.proofs.Steps.{starts, reads-frame, reads-byte, reads-preface, ends-preface}
use Rattle.h2_laws_log.proofs.byte_laws.bytes_are_read.Goals as goal

pub returns : goal.returns
returns c = record { starts = starts; frame = reads-frame; byte = reads-byte; preface = reads-preface; greeted = ends-preface }
