-- What every account keeps is a part of a frame or of the preface.
use Rattle.std.proofs.Common.{◌≡◌, ◌≢◌, ℕ, ◌<◌, ◌≤◌, Bool, true, false, List, [], ◌∷◌, ◌++◌, length, take, bytes_eq, if◌then◌else◌, refl, sym, ◌∙◌, ap, subst, arith, length-append, take_all, le_of_eq, true≢false}
use Rattle.std.proofs.lemmas.Slice.Eq.{bytes_eq-Decides}
use Rattle.h2_frames.specs.Frames.{First, first, Unfinished, Whole, Faulty}
use Rattle.h2_model.specs.Codes.{protocol_error}
use Rattle.h2_model.specs.Account.{Account}
use Rattle.h2_model.specs.History.{Call, Feed, Open, Head, Send, Finish, Reset, Take, preface, start, violated, arrived, with_first, with_greeting, with_byte, with_bytes, called, account, is_violated}
use Rattle.h2_laws_log.specs.Feeding.{KeepsPart, KeepsInput, ReadsPreface}
use Rattle.h2_model.specs.Calls.{is_stopped}
use Rattle.h2_laws_log.proofs.Runs.{runs}
use Rattle.h2_laws_log.proofs.Preface.{greets, greeting-is}
use Rattle.h2_laws_log.proofs.Keeps.{keeps-arrived, keeps-called}
use Rattle.h2_frames.proofs.Cuts.{nothing}

kept : (a b : Account) → KeepsInput a b → KeepsPart a → KeepsPart b
kept a b k p = record {
  frame = λ g. ap first k.rest ∙ p.frame (sym k.greeted ∙ g);
  preface = λ g. subst (λ rest. rest ≡ take (length rest) preface) (sym k.rest) (p.preface (sym k.greeted ∙ g));
  short = λ g. subst (λ rest. length rest < 24) (sym k.rest) (p.short (sym k.greeted ∙ g));
}

part-none : (a : Account) → a.rest ≡ [] → KeepsPart a
part-none a e = record {
  frame = λ g. ap first e ∙ nothing;
  preface = λ g. subst (λ rest. rest ≡ take (length rest) preface) (sym e) refl;
  short = λ g. subst (λ rest. length rest < 24) (sym e) (omega arith);
}

part-violated : (code : ℕ) (a : Account) → KeepsPart a → KeepsPart (violated code a)
part-violated code a p = record { frame = p.frame; preface = p.preface; short = p.short }

part-first : (x : First) (rest : List ℕ) (a : Account) → a.greeted ≡ true → first rest ≡ x → KeepsPart a → KeepsPart (with_first x rest a)
part-first Unfinished rest a g e p = record {
  frame = λ _. e;
  preface = λ n. absurd (true≢false (sym g ∙ n));
  short = λ n. absurd (true≢false (sym g ∙ n));
}
part-first (Whole f n) rest a g e p =
    let b : Account = record a { rest = [] } in kept b (arrived f b) (keeps-arrived f b) (part-none b refl)
part-first (Faulty code) rest a g e p = part-violated code a p

-- bytes of the preface that aren't all of it
short-of-preface : (rest : List ℕ) → length rest ≤ 24 → bytes_eq rest preface ≡ false → rest ≡ take (length rest) preface → length rest < 24
short-of-preface rest l w e =
    let not-all : length rest ≢ 24 =
    λ n. let whole : rest ≡ preface = e ∙ take_all (length rest) preface (le_of_eq (sym n)) in
    let told : bytes_eq rest preface ≡ true = (bytes_eq-Decides rest preface).1 whole in
    true≢false (sym told ∙ w) in
    omega (arith, not-all)

part-greets : (whole part : Bool) (rest : List ℕ) (a : Account) → a.greeted ≡ false → length rest ≤ 24
    → bytes_eq rest preface ≡ whole → bytes_eq rest (take (length rest) preface) ≡ part
    → KeepsPart a → KeepsPart (greets whole part rest a)
part-greets true part rest a g l w t p = part-none (record a { greeted = true; rest = [] }) refl
part-greets false true rest a g l w t p =
    let right : rest ≡ take (length rest) preface = (bytes_eq-Decides rest (take (length rest) preface)).0 t in
    record {
      frame = λ n. absurd (true≢false (sym n ∙ g));
      preface = λ _. right;
      short = λ _. short-of-preface rest l w right;
    }
part-greets false false rest a g l w t p = part-violated protocol_error a p

part-greeting : (rest : List ℕ) (a : Account) → a.greeted ≡ false → length rest ≤ 24 → KeepsPart a → KeepsPart (with_greeting rest a)
part-greeting rest a g l p =
    subst KeepsPart (sym (greeting-is (bytes_eq rest preface) (bytes_eq rest (take (length rest) preface)) rest a refl refl))
    (part-greets (bytes_eq rest preface) (bytes_eq rest (take (length rest) preface)) rest a g l refl refl p)

pub part-byte : (b : ℕ) (a : Account) → KeepsPart a → KeepsPart (with_byte b a)
unfolding with_byte
part-byte b a p = by (is_violated a) a.greeted refl
  where
    longer : a.greeted ≡ false → length (a.rest ++ b ∷ []) ≤ 24
    longer g = omega (arith, p.short g, length-append a.rest (b ∷ []))

    by : (v g : Bool) → a.greeted ≡ g
        → KeepsPart (if v then a else if g then with_first (first (a.rest ++ b ∷ [])) (a.rest ++ b ∷ []) a else with_greeting (a.rest ++ b ∷ []) a)
    by true g e = p
    by false true e = part-first (first (a.rest ++ b ∷ [])) (a.rest ++ b ∷ []) a e refl p
    by false false e = part-greeting (a.rest ++ b ∷ []) a e (longer e) p

pub part-bytes : (bytes : List ℕ) (a : Account) → KeepsPart a → KeepsPart (with_bytes bytes a)
part-bytes [] a p = p
part-bytes (b ∷ bytes) a p = part-bytes bytes (with_byte b a) (part-byte b a p)

pub part-start : (client : Bool) → KeepsPart (start client)
unfolding start
part-start client = part-none (start client) refl

pub part-called : (call : Call) (a : Account) → KeepsPart a → KeepsPart (called call a)
unfolding called
part-called (Feed bytes) a p =
    let q : KeepsPart (with_bytes bytes a) = part-bytes bytes a p in record { frame = q.frame; preface = q.preface; short = q.short }
part-called Open a p = kept a (called Open a) (keeps-called Open a refl) p
part-called (Head id fields block last) a p = kept a (called (Head id fields block last) a) (keeps-called (Head id fields block last) a refl) p
part-called (Send id bytes) a p = kept a (called (Send id bytes) a) (keeps-called (Send id bytes) a refl) p
part-called (Finish id) a p = kept a (called (Finish id) a) (keeps-called (Finish id) a refl) p
part-called (Reset id code) a p = kept a (called (Reset id code) a) (keeps-called (Reset id code) a refl) p
part-called (Take n) a p = record { frame = p.frame; preface = p.preface; short = p.short }

pub part-account : (client : Bool) (h : List Call) → KeepsPart (account client h)
unfolding account
part-account client [] = part-start client
part-account client (call ∷ h) = part-called call (account client h) (part-account client h)

-- a server that lacks a part of the preface goes on with it
pub preface-goes-on-at : (a : Account) → KeepsPart a → a.greeted ≡ false → is_stopped a ≡ false → ReadsPreface (length a.rest) a
preface-goes-on-at a p g s = record {
  greeted = g;
  sound = (runs a s).sound;
  quiet = (runs a s).quiet;
  rest = p.preface g;
  short = p.short g;
}
