-- What a stage tells of the message.
use Rattle.std.proofs.Common.{sym, ◌∙◌, ap, subst, refl, append-nil}
use Rattle.std.specs.Prelude.{ℕ, ◌≡◌, Bool, true, false, not, ◌&&◌, List, [], ◌∷◌, ◌++◌, Option, Some, None, is_some}
use Rattle.http_model.specs.Bytes.{is_empty}
use Rattle.http_model.specs.Reading.{Reading, Fault}
use Rattle.http_model.specs.Reading as reading
use Rattle.http_model.specs.Heads.{Head}
use Rattle.http_model.specs.Bodies.{Body, body, part, faulty, whole_body, behind}
use Rattle.http_model.specs.Reads.{Original, cut_short, has_left, unread, with_body}
use Rattle.http_model.specs.declared.types.Direction.{Direction}
use Rattle.http_model.specs.declared.types.Direction.TheVariants.{Request, Response}
use Rattle.http_model.specs.declared.types.Length.{Length}
use Rattle.http_model.specs.declared.types.Length.TheVariants.{NoBody, Known, Chunked, Close}
use Rattle.h1_read.specs.Messages.{fault_of}
use Rattle.h1_read.specs.Remaining.{Rest}
use Rattle.h1_read.specs.declared.fault.H1Fault.{H1Fault}
use Rattle.h1_message.specs.Source.{Source, IsNews, original, named}
use Rattle.h1_message.specs.Stages.{Stands, reading_of, is_close, cut, whole_at, fault_at, headed_at, news_of, IsGiven}
use Rattle.h1_message.specs.declared.stage.Stage.{Stage}
use Rattle.h1_message.specs.declared.stage.Stage.TheVariants as stage
use Rattle.h1_message.specs.declared.step.Given.{Given}
use Rattle.h1_message.proofs.GivenLaw.{by_reading, by_head}
use Rattle.h1_message.proofs.StageLaw.{unbegun_reads, no_body_now, whole_now}

-- a fault that is named, or none on both sides
pub record SameFault (said : Option H1Fault) (fault : Option Fault) : Type 0 where
  pub is : named said ≡ fault
  pub spoken : is_some said ≡ is_some fault

pub record Tells (o : Original) (x : Stage) (ended : Bool) : Type 0 where
  pub headed : headed_at x ≡ is_some o.head
  pub whole : whole_at x ended ≡ o.whole
  pub fault : SameFault (fault_at x ended) o.fault

-- without a head
unheaded : (o : Original) (f : Option Fault) (x : Stage) (ended : Bool) → o ≡ unread f → headed_at x ≡ false → whole_at x ended ≡ false
    → SameFault (fault_at x ended) f → Tells o x ended
unheaded o f x ended e h w s = record {
  headed = h ∙ sym (ap (λ (y : Original). is_some y.head) e);
  whole = w ∙ sym (ap (λ (y : Original). y.whole) e);
  fault = record { is = s.is ∙ sym (ap (λ (y : Original). y.fault) e); spoken = s.spoken ∙ sym (ap (λ (y : Original). is_some y.fault) e) };
}

-- an end that cuts short
cut_is : (ended : Bool) → SameFault (cut ended) (cut_short ended None)
cut_is true = record { is = refl; spoken = refl }
cut_is false = record { is = refl; spoken = refl }

begun_cut : (d : Direction) (brought : List ℕ) (ended : Bool) → true ≡ not (is_empty brought) → SameFault (cut ended) (cut_short (ended && not (has_left d brought)) None)
begun_cut d [] ended e = absurd cc
begun_cut Request (b ∷ brought) true e = cut_is true
begun_cut Request (b ∷ brought) false e = cut_is false
begun_cut Response (b ∷ brought) true e = cut_is true
begun_cut Response (b ∷ brought) false e = cut_is false

unbegun_cut : (d : Direction) (to_head : Bool) (brought : List ℕ) (ended : Bool) → brought ≡ []
    → SameFault (fault_at (stage.Unbegun d to_head) ended) (cut_short (ended && not (has_left d brought)) None)
unbegun_cut Request to_head [] true e = record { is = refl; spoken = refl }
unbegun_cut Request to_head [] false e = record { is = refl; spoken = refl }
unbegun_cut Response to_head [] true e = cut_is true
unbegun_cut Response to_head [] false e = cut_is false
unbegun_cut d to_head (b ∷ brought) ended e = absurd cc

-- with a head
headed : (s : Source) (h : Head) (behind : List ℕ) (b : Body) (x : Stage) → reading_of s ≡ reading.Whole h behind → body h.length s.ended behind ≡ b
    → headed_at x ≡ true → whole_at x s.ended ≡ b.whole → SameFault (fault_at x s.ended) (cut_short (s.ended && not b.whole) b.fault) → Tells (original s) x s.ended
headed s h behind b x e f t w k =
    let o = by_head s h behind e ∙ ap (with_body s.ended h) f in
    record {
      headed = t ∙ sym (ap (λ (y : Original). is_some y.head) o);
      whole = w ∙ sym (ap (λ (y : Original). y.whole) o);
      fault = record { is = k.is ∙ sym (ap (λ (y : Original). y.fault) o); spoken = k.spoken ∙ sym (ap (λ (y : Original). is_some y.fault) o) };
    }

-- a body that bytes alone don't end
abbrev Unended : Length → Bool → Bool → Option Fault → Type 0
Unended n ended whole fault = ((ended && is_close n) ≡ whole) × SameFault (cut (ended && not (is_close n))) (cut_short (ended && not whole) fault)

unended_by : (n : Length) (ended whole : Bool) (fault : Option Fault) → is_close n ≡ false → whole ≡ false → fault ≡ None → Unended n ended whole fault
unended_by n true whole fault c e g = rw (c, e, g) (refl, cut_is true)
unended_by n false whole fault c e g = rw (e, g) (refl, cut_is false)

unended : (n : Length) (ended : Bool) (bytes : List ℕ) → (body n false bytes).whole ≡ false → (body n false bytes).fault ≡ None
    → Unended n ended (body n ended bytes).whole (body n ended bytes).fault
unended NoBody ended bytes w f = unended_by NoBody ended (body NoBody false bytes).whole (body NoBody false bytes).fault refl w f
unended (Known n) ended bytes w f = unended_by (Known n) ended (body (Known n) false bytes).whole (body (Known n) false bytes).fault refl w f
unended Chunked ended bytes w f = unended_by Chunked ended (body Chunked false bytes).whole (body Chunked false bytes).fault refl w f
unended Close true bytes w f = (refl, record { is = refl; spoken = refl })
unended Close false bytes w f = (refl, record { is = refl; spoken = refl })

body_tells : (s : Source) (n : Length) (r : Rest) → Stands s (stage.Body n r) → Tells (original s) (stage.Body n r) s.ended
body_tells s n r w =
    let b = w.is in
    let now : body n false b.behind ≡ behind b.came (part []) =
    ap (body n false) (sym (append-nil b.behind)) ∙ b.on false [] ∙ ap (behind b.came) b.unfinished in
    let u = unended n s.ended b.behind (ap (λ (y : Body). y.whole) now) (ap (λ (y : Body). y.fault) now) in
    headed s b.head b.behind (body n s.ended b.behind) (stage.Body n r) b.reads (ap (λ k. body k s.ended b.behind) b.framed) refl u.0 u.1

no_more : (f : Option Fault) (ended : Bool) → cut_short (ended && not true) f ≡ f
no_more f true = refl
no_more f false = refl

failed_still : (f : Fault) (ended : Bool) → cut_short (ended && not false) (Some f) ≡ Some f
failed_still f true = refl
failed_still f false = refl

named_is : (e : H1Fault) (f : Fault) (o : Option Fault) → fault_of e ≡ Some f → o ≡ Some f → SameFault (Some e) o
named_is e f o n g = record { is = n ∙ sym g; spoken = sym (ap (λ (x : Option Fault). is_some x) g) }

-- what a stage tells of the message that it stands for
pub tells : (s : Source) (x : Stage) → Stands s x → Tells (original s) x s.ended
tells s (stage.Unbegun d to_head) w =
    unheaded (original s) _ (stage.Unbegun d to_head) s.ended (by_reading s reading.Partial (unbegun_reads s w.is.none)) refl refl
    (subst (λ k. SameFault (fault_at (stage.Unbegun d to_head) s.ended) (cut_short (s.ended && not (has_left k s.brought)) None)) (sym w.is.direction)
    (unbegun_cut d to_head s.brought s.ended w.is.none))
tells s (stage.Head h) w =
    unheaded (original s) _ (stage.Head h) s.ended (by_reading s reading.Partial w.is.reads) refl refl (begun_cut s.direction s.brought s.ended w.begun)
tells s (stage.NoHead e) w =
    unheaded (original s) (Some w.is.fault) (stage.NoHead e) s.ended (by_reading s (reading.Bad w.is.fault) w.is.reads) refl refl
    (named_is e w.is.fault (Some w.is.fault) w.is.named refl)
tells s (stage.Body n r) w = body_tells s n r w
tells s (stage.NoBody e) w =
    let b = w.is in
    headed s b.head b.behind (faulty b.came b.fault) (stage.NoBody e) b.reads (no_body_now (reading_of s) e b s.ended) refl refl
    (named_is e b.fault (cut_short (s.ended && not false) (Some b.fault)) b.named (failed_still b.fault s.ended))
tells s stage.Whole w =
    let b = w.is in
    headed s b.head b.behind (whole_body b.came b.trailers (b.left ++ [])) stage.Whole b.reads (whole_now (reading_of s) b s.ended) refl refl
    (record { is = sym (no_more None s.ended); spoken = ap (λ (x : Option Fault). is_some x) (sym (no_more None s.ended)) })

-- what a call tells, by what it gives and how the message stands by then
pub is_news : (s s' : Source) (x : Stage) (given : Given) → IsGiven (original s) (original s') given → Stands s' x
    → IsNews (original s) (original s') (news_of x s'.ended given)
is_news s s' x given g w =
    let t = tells s' x w in
    record {
      head = g.head;
      once = g.once;
      stated = g.stated;
      body = g.body;
      whole = t.whole;
      trailers = g.trailers;
      fault = t.fault.is;
      spoken = t.fault.spoken;
    }
