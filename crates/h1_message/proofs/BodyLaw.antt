-- A body that is read piece by piece.
use Rattle.std.proofs.Common.{sym, ◌∙◌, ap, refl, append-nil}
use Rattle.std.specs.Prelude.{ℕ, ◌≡◌, ◌≤◌, Bool, true, false, List, [], ◌++◌, length, drop, Option, Some, None, is_some}
use Rattle.ext_msgs.specs.declared.lists.Field.{Field}
use Rattle.http_model.specs.Reading.{Fault}
use Rattle.http_model.specs.Bodies.{Body, behind, part, faulty}
use Rattle.h1_read.specs.Messages.{fault_of}
use Rattle.h1_read.specs.Remaining as remaining
use Rattle.h1_read.specs.Remaining.{Rest, remaining, GivesContent, FedFault}
use Rattle.h1_read.specs.declared.fault.H1Fault.{H1Fault}
use Rattle.h1_read.proofs.BodyMoves.{none_left}
use Rattle.h1_message.specs.Feeding.{BodyGoesOn, Fails, BodyEnds}
use Rattle.h1_message.proofs.FaultLaw.{fault_stays}

-- up to a byte all was read and gave this content
pub record Along (before : Rest) (bytes content : List ℕ) (at : ℕ) (now : Rest) : Type 0 where
  pub in_range : at ≤ length bytes
  pub short : length content ≤ at
  pub on : (ended : Bool) (more : List ℕ) → remaining before ended (bytes ++ more) ≡ behind content (remaining now ended (drop at bytes ++ more))

pub along_ends : (before now after : Rest) (bytes content rest : List ℕ) (at used : ℕ) → Along before bytes content at now → rest ≡ drop at bytes
    → used ≡ length rest → GivesContent now rest used [] after → remaining now false rest ≡ part [] → BodyGoesOn before bytes content after
along_ends before now after bytes content rest at used w b u g e =
    let left : drop used rest ≡ [] = ap (λ n. drop n rest) u ∙ none_left rest in
    record {
      on = λ ended more.
          w.on ended more ∙ ap (λ l. behind content (remaining now ended (l ++ more))) (sym b) ∙ ap (behind content) (g ended more)
          ∙ ap (λ l. behind content (remaining after ended (l ++ more))) left;
      unfinished = sym (g false [] ∙ ap (λ l. remaining after false (l ++ [])) left) ∙ ap (remaining now false) (append-nil rest) ∙ e;
    }

pub along_whole : (before now : Rest) (bytes content rest : List ℕ) (at used : ℕ) (trailers : List Field) → Along before bytes content at now → rest ≡ drop at bytes
    → remaining.Ends now rest used trailers → BodyEnds before bytes content trailers
along_whole before now bytes content rest at used trailers w b e = record {
  left = drop used rest;
  whole = λ ended more.
      w.on ended more ∙ ap (λ l. behind content (remaining now ended (l ++ more))) (sym b) ∙ ap (behind content) (e.whole ended more)
      ∙ ap (λ l. record (behind content (remaining now ended (rest ++ more))) { content = l; trailers = trailers; whole = true; fault = None; rest = drop used rest ++ more }) (append-nil content);
}

fails_by : (before now after : Rest) (bytes content rest : List ℕ) (at : ℕ) (e : H1Fault) (o : Option Fault) → Along before bytes content at now → rest ≡ drop at bytes
    → fault_of e ≡ o → is_some o ≡ true → FedFault now rest after o → Fails before bytes content e
fails_by before now after bytes content rest at e None w b n s f = absurd cc
fails_by before now after bytes content rest at e (Some fault) w b n s f =
    let bad : remaining now false rest ≡ faulty [] fault = f.0 in
    record {
      fault = fault;
      named = n;
      stays = λ ended more.
          w.on ended more ∙ ap (λ l. behind content (remaining now ended (l ++ more))) (sym b)
          ∙ ap (behind content) (fault_stays now ended rest more fault (ap (λ (x : Body). x.fault) bad) ∙ bad)
          ∙ ap (λ l. faulty l fault) (append-nil content);
    }

pub along_fails : (before now after : Rest) (bytes content rest : List ℕ) (at : ℕ) (e : H1Fault) → Along before bytes content at now → rest ≡ drop at bytes
    → is_some (fault_of e) ≡ true → FedFault now rest after (fault_of e) → Fails before bytes content e
along_fails before now after bytes content rest at e w b s f = fails_by before now after bytes content rest at e (fault_of e) w b refl s f
