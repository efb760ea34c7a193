-- One step of reading: a byte of the preface, a part of a frame, a whole one or a fault; and what is answered where it ends.
use Rattle.std.proofs.Common.{◌≡◌, ◌≢◌, ◌⊎◌, inl, inr, ℕ, ◌+◌, ◌<◌, ◌≤◌, ◌==◌, Bool, true, false, not, ◌||◌, List, [], ◌∷◌, ◌++◌, length, take, drop, slice_index, is_some, Result, Ok, Err, IfErr, refl, sym, ◌∙◌, ap, subst, arith, eqb-true, true≢false}
use Rattle.std.specs.Result.{IsErrAnd}
use Rattle.std.proofs.lemmas.Bool.{eqb-false, ne_eqb}
use Rattle.h2_frames.specs.declared.frame.Frame.{Frame}
use Rattle.h2_frames.specs.declared.reader.Step.{Step}
use Rattle.h2_frames.specs.declared.fault.FrameFault.{FrameFault}
use Rattle.h2_frames.specs.Reading.{Feeds}
use Rattle.h2_frames.specs.Frames.{first, Unfinished, Whole, Faulty}
use Rattle.h2_model.specs.declared.answers.Event.{Event}
use Rattle.h2_model.specs.declared.answers.Event.TheVariants as event
use Rattle.h2_model.specs.declared.answers.Fed.{Fed}
use Rattle.h2_model.specs.declared.answers.SessionFault.{SessionFault}
use Rattle.h2_model.specs.Log.{is_empty}
use Rattle.h2_model.specs.Account.{Account}
use Rattle.h2_model.specs.History.{Feed, preface, arrived, called, violated, is_violated}
use Rattle.h2_model.specs.Calls.{event_or_nothing, used_bytes}
use Rattle.h2_laws_log.specs.Feeding.{EndsAt, EndsAtFault, HasRead, KeepsPart, ReadsFrames, ReadsPreface}
use Rattle.h2_laws_log.proofs.Keeps.{keeps-arrived}
use Rattle.h2_laws_log.proofs.Parts.{part-bytes, part-called}
use Rattle.h2_laws_log.proofs.Steps.{reads-frame, reads-preface, ends-preface, ends-stopped, ends-all, ends-more, ends-at-other, ends-fault, answers, refuses, leaves, fault-refuses}
use Rattle.h2_laws_kept.specs.Kept.{Kept}
use Rattle.h2_laws_kept.specs.Arriving.{Brings, Breaks}
use Rattle.h2_laws_kept.specs.StandsFor.{ReadsInput, Holds}
use Rattle.h2_session.specs.Feeding.{Runs, Reaches, Greets, Told, RefusesBytes}
use Rattle.h2_session.proofs.Aside.{input-aside, answered-none}
use Rattle.h2_session.proofs.Sounds.{breaks-quietly}
use Rattle.h2_frames.proofs.Cuts.{nothing}

below : (n : ℕ) → n < 24 → (n == 24) ≡ false
below n l = ne_eqb n 24 (λ e. absurd (omega (arith, l, e)))

-- where reading stops, by what is unreported
brought-stops : (us : List Event) (v : Bool) → event_or_nothing us ≢ event.Nothing → (not (is_empty us) || v) ≡ true
brought-stops [] v n = absurd (n refl)
brought-stops (u ∷ us) v n = refl

violation-stops : (us : List Event) (v : Bool) → v ≡ true → (not (is_empty us) || v) ≡ true
violation-stops [] v e = e
violation-stops (u ∷ us) v e = refl

-- a fault that `?` hands on
pub handed-on : {T : Type 0} (P : SessionFault → Type 0) (r : Result T SessionFault) (e : SessionFault) → IsErrAnd r (λ f. f ≡ e)
    → P e → IfErr r P
handed-on P (Ok x) e h p = tt
handed-on P (Err f) e h p = subst P (sym h) p

module _ (k : Kept) (a b : Account) (bytes : List ℕ) (n : ℕ) (h : Runs k a b bytes n) where
  reads : ReadsInput k b
  reads = h.holds.reads h.sound

  unviolated : is_violated b ≡ false
  unviolated = ap is_some h.sound

  part-read : (m : ℕ) (d : Account) → HasRead a bytes m d → KeepsPart d
  part-read m d r = subst KeepsPart r.after (part-bytes (take m bytes) a h.part)

  leaves-it : (m : ℕ) (d : Account) → EndsAt a bytes m d → d.unreported ≡ [] → called (Feed (used_bytes bytes a)) a ≡ d
  leaves-it m d e q = leaves a bytes m d e ∙ answered-none d q

  part-left : (m : ℕ) (d : Account) → EndsAt a bytes m d → d.unreported ≡ [] → KeepsPart d
  part-left m d e q = subst KeepsPart (leaves-it m d e q) (part-called (Feed (used_bytes bytes a)) a h.part)

  -- The preface

  begun : k.greeted < 24 → b.greeted ≡ false
  begun l = reads.greeted ∙ below k.greeted l

  greets : k.greeted < 24 → ReadsPreface k.greeted b
  greets l = record { greeted = begun l; sound = unviolated; quiet = h.quiet; rest = reads.preface (begun l); short = l }

  pub byte-comes : k.greeted < 24 → n < length bytes → slice_index bytes n ≡ slice_index preface k.greeted
      → Reaches (record k { greeted = k.greeted + 1 }) a bytes (n + 1)
  byte-comes l m e = by (k.greeted + 1 == 24) refl
    where
      part : k.greeted + 1 < 24 → Reaches (record k { greeted = k.greeted + 1 }) a bytes (n + 1)
      part s =
          let d : Account = record b { rest = take (k.greeted + 1) preface } in
          let r : HasRead a bytes (n + 1) d = reads-preface a bytes n b h.read k.greeted (greets l) m e s in
          record {
            reached = d;
            runs = record {
              part = h.part;
              read = r;
              holds = input-aside k b h.holds (k.greeted + 1) k.reader b.greeted d.rest (part-read (n + 1) d r) (λ v. record {
                greeted = begun l ∙ sym (below (k.greeted + 1) s);
                within = omega (arith, s);
                preface = λ g. refl;
                frame = λ g. absurd (true≢false (sym g ∙ begun l));
                begun = λ g. reads.begun g;
              });
              quiet = h.quiet;
              sound = h.sound;
            };
          }

      whole : k.greeted + 1 ≡ 24 → Reaches (record k { greeted = k.greeted + 1 }) a bytes (n + 1)
      whole s =
          let d : Account = record b { greeted = true; rest = [] } in
          let r : HasRead a bytes (n + 1) d = ends-preface a bytes n b h.read k.greeted (greets l) m e s in
          record {
            reached = d;
            runs = record {
              part = h.part;
              read = r;
              holds = input-aside k b h.holds (k.greeted + 1) k.reader true [] (part-read (n + 1) d r) (λ v. record {
                greeted = ap (λ x. x == 24) (sym s);
                within = omega (arith, s);
                preface = λ g. absurd (true≢false g);
                frame = λ g. reads.begun (begun l);
                begun = λ g. absurd (true≢false g);
              });
              quiet = h.quiet;
              sound = h.sound;
            };
          }

      by : (c : Bool) → (k.greeted + 1 == 24) ≡ c → Reaches (record k { greeted = k.greeted + 1 }) a bytes (n + 1)
      by true c = whole (eqb-true (k.greeted + 1) 24 c)
      by false c = part (omega (arith, l, eqb-false (k.greeted + 1) 24 c))

  pub other-byte : k.greeted < 24 → n < length bytes → slice_index bytes n ≢ slice_index preface k.greeted
      → (l : Kept) → Holds l (violated 1 b) → RefusesBytes l a bytes 1
  other-byte s m e l x =
      let t : EndsAt a bytes (n + 1) (violated 1 b) = ends-at-other a bytes n b h.read k.greeted (greets s) m e in
      record {
        fault = refuses a bytes (n + 1) (violated 1 b) t 1 refl;
        holds = subst (Holds l) (sym (leaves-it (n + 1) (violated 1 b) t h.quiet)) x;
      }

  -- Frames

  pub all-read : n ≡ length bytes → (f : Fed) → f.used ≡ n → f.event ≡ event.Nothing → Told k a bytes f
  all-read m f u e =
      let t : EndsAt a bytes n b = ends-all a bytes n b h.read m in
      record {
        fed = answers a bytes n b t f u (e ∙ sym (ap event_or_nothing h.quiet)) h.sound;
        holds = subst (Holds k) (sym (leaves-it n b t h.quiet)) h.holds;
      }

-- the answer of a reader, by the bytes and the case
pub feeds-as : (reader new : List ℕ) {bytes rest : List ℕ} {x y : Result Step FrameFault} → bytes ≡ rest → x ≡ y
    → Feeds reader bytes x new → Feeds reader rest y new
feeds-as reader new {bytes} {rest} {x} {y} e q h = subst (λ z. Feeds reader rest z new) q (subst (λ z. Feeds reader z x new) e h)

module _ (k : Kept) (a : Account) (bytes : List ℕ) (n : ℕ) (met : Greets k a bytes n) (more : n < length bytes) where
  abbrev b : Account
  b = met.reached

  h : Runs k a b bytes n
  h = met.runs

  -- where bytes are left they are frames
  g : b.greeted ≡ true
  g = by met.greeted
    where
      by : (b.greeted ≡ true) ⊎ (n ≡ length bytes) → b.greeted ≡ true
      by (inl t) = t
      by (inr e) = absurd (omega (arith, more, e))

  kept-reads : ReadsInput k b
  kept-reads = h.holds.reads h.sound

  frames : ReadsFrames b
  frames = record { greeted = g; sound = ap is_some h.sound; quiet = h.quiet }

  not-before : {X : Type 0} → b.greeted ≡ false → X
  not-before f = absurd (true≢false (sym g ∙ f))

  reader-reads : (reader rest : List ℕ) → reader ≡ rest → ReadsInput (record k { reader = reader }) (record b { rest = rest })
  reader-reads reader rest e = record {
    greeted = kept-reads.greeted;
    within = kept-reads.within;
    preface = λ f. not-before f;
    frame = λ t. e;
    begun = λ f. not-before f;
  }

  pub part-waits : (reader : List ℕ) → first (k.reader ++ drop n bytes) ≡ Unfinished → reader ≡ k.reader ++ drop n bytes
      → (f : Fed) → f.used ≡ length bytes → f.event ≡ event.Nothing → Told (record k { reader = reader }) a bytes f
  part-waits reader u r f m e =
      let d : Account = record b { rest = b.rest ++ drop n bytes } in
      let t : EndsAt a bytes (length bytes) d =
      ends-more a bytes n b h.read frames (ap (λ x. first (x ++ drop n bytes)) (sym (kept-reads.frame g)) ∙ u) in
      record {
        fed = answers a bytes (length bytes) d t f m (e ∙ sym (ap event_or_nothing h.quiet)) h.sound;
        holds = subst (Holds (record k { reader = reader })) (sym (leaves-it k a b bytes n h (length bytes) d t h.quiet))
            (input-aside k b h.holds k.greeted reader b.greeted d.rest (part-left k a b bytes n h (length bytes) d t h.quiet)
            (λ v. reader-reads reader d.rest (r ∙ ap (λ x. x ++ drop n bytes) (kept-reads.frame g))));
      }

  pub reader-same : (reader : List ℕ) → reader ≡ k.reader → Holds (record k { reader = reader }) b
  reader-same reader e = subst (λ x. Holds (record k { reader = x }) b) (sym e) h.holds

  pub frame-faulty : (code : ℕ) → first (k.reader ++ drop n bytes) ≡ Faulty code → (l : Kept) → Holds l (violated code b)
      → RefusesBytes l a bytes code
  frame-faulty code u l x =
      let t : EndsAtFault a bytes code b =
      ends-fault a bytes n b h.read code frames (h.holds.sound.part.frame g) (ap (λ x. first (x ++ drop n bytes)) (sym (kept-reads.frame g)) ∙ u) in
      let d : Account = violated code (record b { rest = t.rest }) in
      record {
        fault = fault-refuses a bytes code b t;
        holds = subst (Holds l) (sym (leaves-it k a b bytes n h t.count d t.ends h.quiet))
            (input-aside l (violated code b) x l.greeted l.reader b.greeted t.rest (part-left k a b bytes n h t.count d t.ends h.quiet)
            (λ v. absurd cc));
      }

  -- a whole frame
  abbrev c : Account
  c = record b { rest = [] }

  pub frame-held : (reader : List ℕ) → reader ≡ [] → Holds (record k { reader = reader }) c
  frame-held reader e = input-aside k b h.holds k.greeted reader b.greeted [] part (λ v. reader-reads reader [] e)
    where
      part : KeepsPart c
      part = record { frame = λ t. nothing; preface = λ f. not-before f; short = λ f. not-before f }

  module _ (f : Frame) (m : ℕ) (w : first (k.reader ++ drop n bytes) ≡ Whole f (length k.reader + m)) (p : 0 < m)
      (q : m ≤ length (drop n bytes)) where
    comes : HasRead a bytes (n + m) (arrived f c)
    comes = reads-frame a bytes n b h.read m f frames
        (subst (λ x. first (x ++ drop n bytes) ≡ Whole f (length x + m)) (kept-reads.frame g) w) p q

    pub frame-goes-on : (l : Kept) (e : Event) → Brings l f c e → e ≡ event.Nothing → Greets l a bytes (n + m)
    frame-goes-on l e x z = record {
      reached = arrived f c;
      runs = record {
        part = h.part;
        read = comes;
        holds = subst (Holds l) (answered-none (arrived f c) (x.quiet z)) x.holds;
        quiet = x.quiet z;
        sound = x.sound;
      };
      greeted = inl ((keeps-arrived f c).greeted ∙ g);
    }

    pub frame-told : (l : Kept) (e : Event) → Brings l f c e → e ≢ event.Nothing → (r : Fed) → r.used ≡ n + m → r.event ≡ e
        → Told l a bytes r
    frame-told l e x z r u v =
        let t : EndsAt a bytes (n + m) (arrived f c) = ends-stopped a bytes (n + m) (arrived f c) comes
        (brought-stops (arrived f c).unreported (is_violated (arrived f c)) (λ s. z (x.told ∙ s))) in
        record {
          fed = answers a bytes (n + m) (arrived f c) t r u (v ∙ x.told) x.sound;
          holds = subst (Holds l) (sym (leaves a bytes (n + m) (arrived f c) t)) x.holds;
        }

    pub frame-breaks : (l : Kept) (code : ℕ) → Breaks l f c code → RefusesBytes l a bytes code
    frame-breaks l code x =
        let t : EndsAt a bytes (n + m) (arrived f c) = ends-stopped a bytes (n + m) (arrived f c) comes
        (violation-stops (arrived f c).unreported (is_violated (arrived f c)) (ap is_some x.told)) in
        record {
          fault = refuses a bytes (n + m) (arrived f c) t code x.told;
          holds = subst (Holds l)
              (sym (leaves-it k a b bytes n h (n + m) (arrived f c) t (breaks-quietly f c code h.sound x.told ∙ h.quiet))) x.holds;
        }
