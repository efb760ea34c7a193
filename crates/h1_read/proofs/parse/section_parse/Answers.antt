use Rattle.std.proofs.Common.{arith, length, refl}
use Rattle.h1_read.proofs.ParsedLaw.{section_whole, section_open, section_exceeded}
use Rattle.h1_read.proofs.parse.section_parse.Goals as goal

pub returns-in-Ok-Complete : goal.returns-in-Ok-Complete
returns-in-Ok-Complete c =
    let got = rw c.in-Ok-Complete.field-0-is at c.in-Ok-Complete.ensures.complete in
    let inside = rw c.in-Ok-Complete.field-0-is at c.in-Ok-Complete.ensures.within in
    section_whole c.args.bytes.now c.parse_headers.new.headers c.in-Ok-Complete.len c.in-Ok-Complete.count (omega (arith, c.parse_headers.auto.headers)) inside got

pub returns-in-Ok-Partial : goal.returns-in-Ok-Partial
returns-in-Ok-Partial c =
    let none = rw c.in-Ok-Partial.field-0-is at c.in-Ok-Partial.ensures.partial in
    let may = rw c.in-Ok-Partial.field-0-is at c.in-Ok-Partial.ensures.unfinished in
    section_open c.args.bytes.now c.requires none may

pub returns-in-Err-TooManyHeaders : goal.returns-in-Err-TooManyHeaders
returns-in-Err-TooManyHeaders c =
    let many = rw c.in-Err-TooManyHeaders.field-0-is at c.in-Err-TooManyHeaders.ensures.too_many in
    section_exceeded c.args.bytes.now (length c.args.spans.now) (omega arith) c.requires (many refl)
