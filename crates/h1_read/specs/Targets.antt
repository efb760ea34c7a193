-- A target in absolute form: RFC 9112 section 3.2.2.
use Rattle.std.specs.Prelude.{ℕ, List, Option}
use Rattle.http_model.specs.Heads.{path_behind, is_authority_byte, span, with_authority}

-- the authority and the path behind `http://`
abbrev pub absolute : List ℕ → List ℕ → Option (List ℕ × List ℕ)
absolute method bytes = let behind = span is_authority_byte bytes in with_authority behind.0 (path_behind method behind.1)
