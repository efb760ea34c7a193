-- A half hands out the parts that its message goes on with, in their order.
use Rattle.std.proofs.Common.{refl, sym, ◌∙◌, ap, subst, arith}
use Rattle.std.proofs.lemmas.List.{length-take-le}
use Rattle.std.specs.Prelude.{ℕ, ◌≡◌, ◌+◌, ◌<◌, ◌≤◌, min, Bool, true, false, List, [], length, take, Option, Some, None, option_map, unwrap_or, if◌then◌else◌}
use Rattle.ext_msgs.specs.declared.lists.Field.{Field}
use Rattle.http_model.specs.declared.types.Direction.{Direction}
use Rattle.http_model.specs.declared.types.Framing.{Framing}
use Rattle.http_model.specs.declared.types.Out.TheVariants as part
use Rattle.filter_model.specs.Config.{CourseConfig}
use Rattle.filter_model.specs.Course.{Course, Outgoing, changed, changed_at, body_of, replacement}
use Rattle.filter_model.specs.Half.{Past, Taken, Gave, NothingDue, IsNextData, MayGive, trailers_left, after_step, becomes, progress, course, half_rules}
use Rattle.half_machine.specs.Stands.{MadeWith, Ties, StandsFor, flow}
use Rattle.half_machine.specs.Asking.{passes}
use Rattle.half_machine.specs.Giving.{out_size, hand_size, out_given, hand_given, head_given}
use Rattle.half_machine.specs.declared.half.Half.{Half}
use Rattle.half_machine.proofs.Permit.{changed_flow, left_over}
use Rattle.half_machine.proofs.GivingData.{more_taken, none_out, out_next, out_ties, hand_next, hand_ties}

-- The head

pub head_of : (c : CourseConfig) (d : Direction) (w : Course) (o : Option Outgoing) → w.head ≡ o → (changed c d w).head ≡ o
unfolding changed
head_of c d w None e = ap (λ z. (changed_at c w z (replacement d w)).head) e
head_of c d w (Some o) e = ap (λ z. (changed_at c w z (replacement d w)).head) e ∙ by (replacement d w)
  where
    by : (r : Option (List ℕ)) → (changed_at c w (Some o) r).head ≡ Some o
    by (Some b) = refl
    by None = refl

pub record Framed (w : Course) (framing : Framing) : Type 0 where
  pub head : Outgoing
  pub chosen : w.head ≡ Some head
  pub same : head.framing ≡ framing

pub framed : (p : Past) (x : Half) (framing : Framing) → StandsFor p x → x.gone.framing ≡ Some framing → Framed (course p) framing
framed p x framing s e = by (course p).head refl
  where
    inside : (f : Framing) → Some f ≡ Some framing → f ≡ framing
    inside f e = ap (λ o. unwrap_or o framing) e

    by : (o : Option Outgoing) → (course p).head ≡ o → Framed (course p) framing
    by None i = absurd (differs (sym (s.ties.gone.framing ∙ ap (option_map (λ (o : Outgoing). o.framing)) i) ∙ e))
      where
        differs : None ≡ Some framing → ⊥
        differs e = cc
    by (Some o) i = record { head = o; chosen = i; same = inside o.framing (sym (s.ties.gone.framing ∙ ap (option_map (λ (o : Outgoing). o.framing)) i) ∙ e) }

none_there : (c : CourseConfig) (d : Direction) (w : Course) (t : Taken) → w.head ≡ None → t.body ≡ 0 → NothingDue (changed c d w) t
unfolding changed
none_there c d w t e z = subst (λ o. NothingDue (changed_at c w o (replacement d w)) t) (sym e) (record {
  head = λ i. refl;
  body = λ i. z;
  trailers = λ i. none t.trailers;
  ended = λ i j. refl;
})
  where
    none : (b : Bool) → trailers_left (changed_at c w None (replacement d w)) b ≡ None
    none true = refl
    none false = refl

pub nothing_yet : (p : Past) (x : Half) → StandsFor p x → x.gone.framing ≡ None → NothingDue (becomes p) (progress p).taken
nothing_yet p x s e = by (course p).head refl
  where
    by : (o : Option Outgoing) → (course p).head ≡ o → NothingDue (becomes p) (progress p).taken
    by None i = none_there p.config p.direction (course p) (progress p).taken i (s.ties.gone.early i)
    by (Some o) i = absurd (differs (sym e ∙ s.ties.gone.framing ∙ ap (option_map (λ (o : Outgoing). o.framing)) i))
      where
        differs : None ≡ Some o.framing → ⊥
        differs e = cc

pub nothing_stands : (p : Past) (x : Half) → StandsFor p x → StandsFor (after_step (Gave part.Nothing) p) x
unfolding half_rules
nothing_stands p x s = record { made = s.made; ties = s.ties }

pub head_may : (p : Past) (x : Half) (framing : Framing) (max : ℕ) → StandsFor p x → x.gone.framing ≡ Some framing → x.gone.head ≡ false
    → MayGive max (becomes p) (progress p).taken (part.Head (unwrap_or x.head []) framing)
head_may p x framing max s e z =
    let f : Framed (course p) framing = framed p x framing s e in
    let o : Outgoing = f.head in
    let h : x.head ≡ Some o.fields = s.ties.fields o f.chosen in (
      sym s.ties.gone.head ∙ z,
      head_of p.config p.direction (course p) (Some o) f.chosen
          ∙ ap (λ z. Some (record { fields = o.fields; framing = z })) f.same
          ∙ ap (λ z. Some (record { fields = z; framing = framing })) (sym (ap (λ z. unwrap_or z []) h)),
    )

pub head_stands : (p : Past) (x : Half) (fields : List Field) (framing : Framing) → StandsFor p x → StandsFor (after_step (Gave (part.Head fields framing)) p) (head_given x)
unfolding half_rules
head_stands p x fields framing s =
    let t : Ties p.config p.direction (progress p) x = s.ties in
    record {
      made = s.made;
      ties = record {
        arrived = t.arrived;
        rule = t.rule;
        asked = t.asked;
        ready = t.ready;
        body_asks = t.body_asks;
        counts = t.counts;
        gone = record { framing = t.gone.framing; head = refl; trailers = t.gone.trailers; ended = t.gone.ended; early = t.gone.early };
        hold = t.hold;
        room = t.room;
        pieces = t.pieces;
        pieces_fit = t.pieces_fit;
        pieces_room = t.pieces_room;
        marks = t.marks;
        head = t.head;
        fields = t.fields;
        trailers = t.trailers;
        parts = t.parts;
        few = t.few;
        sound = t.sound;
      };
    }

-- The body

pub out_may : (p : Past) (x : Half) (framing : Framing) (max n : ℕ) (b : List ℕ) → StandsFor p x → x.gone.framing ≡ Some framing → x.gone.head ≡ true → n ≡ out_size max x → 0 < n → b ≡ take n x.hold.out
    → MayGive max (becomes p) (progress p).taken (part.Data b)
out_may p x framing max n b s e z l y f =
    let g : Framed (course p) framing = framed p x framing s e in (
      sym s.ties.gone.head ∙ z,
      subst (λ q. IsNextData max (becomes p).pieces (becomes p).passing (progress p).taken.body q) (sym f) (out_next p.config p.direction (progress p) x g.head max n s.ties g.chosen l y),
    )

more_bytes : (p : Past) (x : Half) (n : ℕ) (b : List ℕ) → MadeWith p.config p.direction x → length b ≡ n → Ties p.config p.direction (more_taken (progress p) n) x
    → StandsFor (after_step (Gave (part.Data b)) p) x
unfolding half_rules
more_bytes p x n b m e t = record { made = m; ties = subst (λ k. Ties p.config p.direction (more_taken (progress p) k) x) (sym e) t }

pub out_stands : (p : Past) (x : Half) (framing : Framing) (max n : ℕ) (b : List ℕ) → StandsFor p x → x.gone.framing ≡ Some framing → n ≡ out_size max x → 0 < n → n ≤ 4_294_967_295 → b ≡ take n x.hold.out
    → StandsFor (after_step (Gave (part.Data b)) p) (out_given n x)
out_stands p x framing max n b s e l y u f =
    let g : Framed (course p) framing = framed p x framing s e in
    more_bytes p (out_given n x) n b s.made (ap length f ∙ length-take-le n x.hold.out (omega arith)) (out_ties p.config p.direction (progress p) x g.head max n s.made s.ties g.chosen l y u)

-- how many of those at hand
pub record HandSize (x : Half) (max n : ℕ) : Type 0 where
  pub passes : passes x ≡ true
  pub size : n ≡ min max (length x.hold.hand)

pub hand_sized : (x : Half) (max n : ℕ) → n ≡ hand_size max x → 0 < n → HandSize x max n
hand_sized x max n e y = by (passes x) refl
  where
    by : (q : Bool) → passes x ≡ q → HandSize x max n
    by true i = record { passes = i; size = e ∙ ap (λ q. if q then min max (length x.hold.hand) else 0) i }
    by false i = let z : n ≡ 0 = e ∙ ap (λ q. if q then min max (length x.hold.hand) else 0) i in absurd (omega arith)

pub hand_may : (p : Past) (x : Half) (framing : Framing) (max n : ℕ) (b : List ℕ) → StandsFor p x → 1 ≤ max → x.gone.framing ≡ Some framing → x.gone.head ≡ true → out_size max x ≡ 0 → n ≡ hand_size max x → 0 < n
    → b ≡ take n x.hold.hand → MayGive max (becomes p) (progress p).taken (part.Data b)
hand_may p x framing max n b s m e z q l y f =
    let g : Framed (course p) framing = framed p x framing s e in
    let h : HandSize x max n = hand_sized x max n l y in
    let o = none_out p.config p.direction (progress p) x max s.ties m q in (
      sym s.ties.gone.head ∙ z,
      subst (λ q. IsNextData max (becomes p).pieces (becomes p).passing (progress p).taken.body q) (sym f) (hand_next p.config p.direction (progress p) x g.head max n s.ties g.chosen o.0 o.1 h.passes h.size y),
    )

pub hand_stands : (p : Past) (x : Half) (framing : Framing) (max n : ℕ) (b : List ℕ) → StandsFor p x → 1 ≤ max → x.gone.framing ≡ Some framing → out_size max x ≡ 0 → n ≡ hand_size max x → 0 < n
    → n ≤ 4_294_967_295 → b ≡ take n x.hold.hand → StandsFor (after_step (Gave (part.Data b)) p) (hand_given n x)
hand_stands p x framing max n b s m e q l y u f =
    let g : Framed (course p) framing = framed p x framing s e in
    let h : HandSize x max n = hand_sized x max n l y in
    let size = h.size in
    let o = none_out p.config p.direction (progress p) x max s.ties m q in
    more_bytes p (hand_given n x) n b s.made (ap length f ∙ length-take-le n x.hold.hand (omega arith)) (hand_ties p.config p.direction (progress p) x g.head max n s.made s.ties g.chosen o.0 o.1 h.passes h.size y u)

-- where none is left to go, all of it was handed out
pub body_taken : (p : Past) (x : Half) (framing : Framing) (max : ℕ) → StandsFor p x → 1 ≤ max → x.gone.framing ≡ Some framing → out_size max x ≡ 0 → hand_size max x ≡ 0
    → (progress p).taken.body ≡ length (body_of (becomes p))
body_taken p x framing max s m e z q =
    let g : Framed (course p) framing = framed p x framing s e in
    let a : (progress p).taken.body + (length x.hold.out + (if passes x then length x.hold.hand else 0)) ≡ length (flow p.config p.direction (course p)) = left_over p.config p.direction (progress p) x s.ties in
    let b : length x.hold.out ≡ 0 = (none_out p.config p.direction (progress p) x max s.ties m z).1 in
    let c : (if passes x then length x.hold.hand else 0) ≡ 0 = none (passes x) q in
    let d : length (body_of (becomes p)) ≡ length (flow p.config p.direction (course p)) = ap length (changed_flow p.config p.direction (course p) g.head g.chosen) in
    omega arith
  where
    none : (b : Bool) → (if b then min max (length x.hold.hand) else 0) ≡ 0 → (if b then length x.hold.hand else 0) ≡ 0
    none true e = omega arith
    none false e = refl
