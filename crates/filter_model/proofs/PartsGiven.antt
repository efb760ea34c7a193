-- Along a past, what was given of the parts that were handed out is counted by the parts.
use Rattle.std.proofs.Common.{inl, inr, sym, ◌∙◌, ap, subst, refl, arith, append-nil, append_assoc, length-append}
use Rattle.std.proofs.lemmas.List.{drop-drop}
use Rattle.std.specs.Prelude.{ℕ, ◌≡◌, ◌+◌, ◌-◌, ◌<◌, Bool, true, false, List, [], ◌∷◌, ◌++◌, length, take, drop, Option, Some, None, if◌then◌else◌}
use Rattle.ext_msgs.specs.declared.lists.Field.{Field}
use Rattle.ext_msgs.specs.declared.modes.PartModes.{PartModes}
use Rattle.http_model.specs.Wire.{head_bytes}
use Rattle.http_model.specs.declared.types.Direction.{Direction}
use Rattle.http_model.specs.declared.types.Framing.{Framing}
use Rattle.http_model.specs.declared.types.Framing.TheVariants.{NoField, Length, Chunked}
use Rattle.http_model.specs.declared.types.Out.{Out}
use Rattle.http_model.specs.declared.types.Out.TheVariants as part
use Rattle.filter_model.specs.Config.{CourseConfig}
use Rattle.filter_model.specs.Course.{Changed, Outgoing, changed, body_of}
use Rattle.filter_model.specs.Account.{given_count}
use Rattle.filter_model.specs.Outgoing.{carried, body_bytes, end_bytes, passing_limit}
use Rattle.filter_model.specs.Grown.{Grown}
use Rattle.filter_model.specs.Half.{HalfStep, Told, Asked, Gave, Past, Progress, Taken, MayGive, becomes, parts, progress, progress_of, half_rules}
use Rattle.filter_model.specs.HalfRight.{AreSteps, IsPast, framing_in, has_trailers, part_behind, part_bytes, written_parts}
use Rattle.filter_model.specs.Given.{data_of, data_at, data_in}
use Rattle.filter_model.proofs.HalfGrows.{told_goes}
use Rattle.filter_model.proofs.HalfWritten.{Untouched, IsDone, Gone, IsGone, next_is, some_left, not_true, left_of, along}
use Rattle.filter_model.proofs.DataGiven.{Counted, nothing_written, take_none, behind_first, data_split, end_split, none_in, with_none}

clash : true ≡ false → ⊥
clash e = cc

-- Nothing was written behind the body, as long as a part of it may go

no_end_yet : (d : Direction) (m : Changed) (t : Taken) (outs : List Out) (g : Gone d m t outs) → t.body < length (body_of m) → g.tail ≡ []
no_end_yet d m t outs g l = g.none (not_true t.trailers (λ z. full (g.done (inl z)))) (not_true t.ended (λ z. full (g.done (inr z))))
  where
    full : IsDone m t g.out.framing g.tail → ⊥
    full x = let e = x.body in omega (arith, e, l)

-- What one part adds

counted_with : (d : Direction) (o : Outgoing) (outs : List Out) (out : Out) (behind more : List ℕ) (n : ℕ)
    → written_parts d outs ≡ head_bytes d o.fields o.framing ++ behind → written_parts d (out ∷ outs) ≡ head_bytes d o.fields o.framing ++ (behind ++ more)
    → Counted d o outs
    → carried o.framing (take (n - length (head_bytes d o.fields o.framing)) (behind ++ more))
    ≡ carried o.framing (take (n - length (head_bytes d o.fields o.framing)) behind) + data_at (framing_in outs) (n - length (written_parts d outs)) out
    → carried o.framing (drop (length (head_bytes d o.fields o.framing)) (take n (written_parts d (out ∷ outs)))) ≡ data_in d (out ∷ outs) n
counted_with d o outs out behind more n w x k e =
    let head : List ℕ = head_bytes d o.fields o.framing in
    ap (λ l. carried o.framing (drop (length head) (take n l))) x
    ∙ ap (carried o.framing) (behind_first head (behind ++ more) n)
    ∙ e
    ∙ ap (λ i. i + data_at (framing_in outs) (n - length (written_parts d outs)) out)
    (ap (carried o.framing) (sym (behind_first head behind n)) ∙ ap (λ l. carried o.framing (drop (length head) (take n l))) (sym w) ∙ k n)

abbrev IsNoData : Out → Type 0
IsNoData (part.Data bytes) = ⊥
IsNoData _ = Unit {0}

data_none : (f : Framing) (n : ℕ) (out : Out) → IsNoData out → data_of f n out ≡ 0
data_none f n (part.Data bytes) k = absurd k
data_none NoField n (part.Head fields framing) k = refl
data_none NoField n (part.Trailers fields) k = refl
data_none NoField n part.End k = refl
data_none NoField n part.Nothing k = refl
data_none (Length m) n (part.Head fields framing) k = refl
data_none (Length m) n (part.Trailers fields) k = refl
data_none (Length m) n part.End k = refl
data_none (Length m) n part.Nothing k = refl
data_none Chunked n (part.Head fields framing) k = refl
data_none Chunked n (part.Trailers fields) k = refl
data_none Chunked n part.End k = refl
data_none Chunked n part.Nothing k = refl

at_none : (o : Option Framing) (n : ℕ) (out : Out) → IsNoData out → data_at o n out ≡ 0
at_none None n out k = refl
at_none (Some f) n out k = data_none f n out k

plus_none : (n m : ℕ) → m ≡ 0 → n ≡ n + m
plus_none n m e = omega arith

-- a part that isn't data adds none, where it writes nothing or the end
adds_none : (d : Direction) (o : Outgoing) (outs : List Out) (out : Out) (behind more : List ℕ) → IsNoData out
    → written_parts d outs ≡ head_bytes d o.fields o.framing ++ behind → written_parts d (out ∷ outs) ≡ head_bytes d o.fields o.framing ++ (behind ++ more)
    → ((n : ℕ) → carried o.framing (take n (behind ++ more)) ≡ carried o.framing (take n behind)) → Counted d o outs → Counted d o (out ∷ outs)
adds_none d o outs out behind more z w x e k n =
    counted_with d o outs out behind more n w x k
    (e (n - length (head_bytes d o.fields o.framing)) ∙ plus_none _ _ (at_none (framing_in outs) (n - length (written_parts d outs)) out z))

behind_part : (d : Direction) (o : Outgoing) (outs : List Out) (out : Out) (behind more : List ℕ) → framing_in outs ≡ Some o.framing → written_parts d outs ≡ head_bytes d o.fields o.framing ++ behind
    → part_behind o.framing (has_trailers outs) out ≡ more → written_parts d (out ∷ outs) ≡ head_bytes d o.fields o.framing ++ (behind ++ more)
behind_part d o outs out behind more f w e =
    ap (λ x. written_parts d outs ++ part_bytes d x (has_trailers outs) out) f ∙ ap (λ l. written_parts d outs ++ l) e ∙ ap (λ l. l ++ more) w
    ∙ append_assoc (head_bytes d o.fields o.framing) behind more

same_behind : (o : Outgoing) (behind : List ℕ) (n : ℕ) → carried o.framing (take n (behind ++ [])) ≡ carried o.framing (take n behind)
same_behind o behind n = ap (λ l. carried o.framing (take n l)) (append-nil behind)

-- Behind the head

abbrev body_in : {d : Direction} {m : Changed} {t : Taken} {outs : List Out} → Gone d m t outs → List ℕ
body_in g = body_bytes g.out.framing (g.shown.gone ++ g.shown.cuts)

no_tail : (d : Direction) (m : Changed) (t : Taken) (outs : List Out) (g : Gone d m t outs) → g.tail ≡ [] → written_parts d outs ≡ head_bytes d g.out.fields g.out.framing ++ body_in g
no_tail d m t outs g e = g.bytes ∙ ap (λ l. head_bytes d g.out.fields g.out.framing ++ (body_in g ++ l)) e ∙ ap (λ l. head_bytes d g.out.fields g.out.framing ++ l) (append-nil (body_in g))

data_counted : (d : Direction) (m : Changed) (t : Taken) (outs : List Out) (b : List ℕ) (g : Gone d m t outs) → MayGive passing_limit m t (part.Data b) → Counted d g.out outs → Counted d g.out (part.Data b ∷ outs)
data_counted d m t outs b g k i n =
    let head : List ℕ = head_bytes d g.out.fields g.out.framing in
    let w : written_parts d outs ≡ head ++ body_in g =
    no_tail d m t outs g (no_end_yet d m t outs g (some_left m t g.shown b (next_is m t g.shown passing_limit b k.1))) in
    let size : length (written_parts d outs) ≡ length head + length (body_in g) = ap length w ∙ length-append head (body_in g) in
    let place : (n - length head) - length (body_in g) ≡ n - length (written_parts d outs) = omega arith in
    counted_with d g.out outs (part.Data b) (body_in g) (body_bytes g.out.framing (b ∷ [])) n w
    (behind_part d g.out outs (part.Data b) (body_in g) (body_bytes g.out.framing (b ∷ [])) g.framing w refl) i
    (data_split g.out.framing (g.shown.gone ++ g.shown.cuts) b (n - length head)
    ∙ ap (λ j. carried g.out.framing (take (n - length head) (body_in g)) + data_of g.out.framing j (part.Data b)) place
    ∙ ap (λ x. carried g.out.framing (take (n - length head) (body_in g)) + data_at x (n - length (written_parts d outs)) (part.Data b)) (sym g.framing))

trailers_counted : (d : Direction) (m : Changed) (t : Taken) (outs : List Out) (fields : List Field) (g : Gone d m t outs) → MayGive passing_limit m t (part.Trailers fields)
    → Counted d g.out outs → Counted d g.out (part.Trailers fields ∷ outs)
trailers_counted d m t outs fields g k i =
    let l = left_of m t.trailers fields k.1 in
    let w : written_parts d outs ≡ head_bytes d g.out.fields g.out.framing ++ body_in g =
    no_tail d m t outs g (g.none l.0 (not_true t.ended (λ z. differs (sym l.1 ∙ g.last z l.0)))) in
    adds_none d g.out outs (part.Trailers fields) (body_in g) (end_bytes g.out.framing fields) tt w
    (behind_part d g.out outs (part.Trailers fields) (body_in g) (end_bytes g.out.framing fields) g.framing w refl)
    (λ n. end_split g.out.framing (g.shown.gone ++ g.shown.cuts) fields n) i
  where
    differs : Some fields ≡ None → ⊥
    differs e = cc

end_counted : (d : Direction) (m : Changed) (t : Taken) (outs : List Out) (g : Gone d m t outs) → MayGive passing_limit m t part.End → Counted d g.out outs → Counted d g.out (part.End ∷ outs)
end_counted d m t outs g k i = by t.trailers refl
  where
    by : (b : Bool) → t.trailers ≡ b → Counted d g.out (part.End ∷ outs)
    by true e =
        adds_none d g.out outs part.End (body_in g ++ g.tail) [] tt g.bytes
        (behind_part d g.out outs part.End (body_in g ++ g.tail) [] g.framing g.bytes (ap (λ b. if b then [] else end_bytes g.out.framing []) (g.trailers ∙ e)))
        (same_behind g.out (body_in g ++ g.tail)) i
    by false e =
        let w : written_parts d outs ≡ head_bytes d g.out.fields g.out.framing ++ body_in g = no_tail d m t outs g (g.none e k.2) in
        adds_none d g.out outs part.End (body_in g) (end_bytes g.out.framing []) tt w
        (behind_part d g.out outs part.End (body_in g) (end_bytes g.out.framing []) g.framing w (ap (λ b. if b then [] else end_bytes g.out.framing []) (g.trailers ∙ e)))
        (λ n. end_split g.out.framing (g.shown.gone ++ g.shown.cuts) [] n) i

gone_counted : (d : Direction) (m : Changed) (t : Taken) (outs : List Out) (out : Out) (g : Gone d m t outs) → MayGive passing_limit m t out → Counted d g.out outs → Counted d g.out (out ∷ outs)
gone_counted d m t outs (part.Head fields framing) g k i = absurd (clash (sym g.head ∙ k.0))
gone_counted d m t outs (part.Data b) g k i = data_counted d m t outs b g k i
gone_counted d m t outs (part.Trailers fields) g k i = trailers_counted d m t outs fields g k i
gone_counted d m t outs part.End g k i = end_counted d m t outs g k i
gone_counted d m t outs part.Nothing g k i =
    adds_none d g.out outs part.Nothing (body_in g ++ g.tail) [] tt g.bytes
    (behind_part d g.out outs part.Nothing (body_in g ++ g.tail) [] g.framing g.bytes refl) (same_behind g.out (body_in g ++ g.tail)) i

-- The head

head_counted : (d : Direction) (m : Changed) (t : Taken) (outs : List Out) (fields : List Field) (framing : Framing) → Untouched t outs → written_parts d outs ≡ []
    → Counted d (record { fields = fields; framing = framing }) (part.Head fields framing ∷ outs)
head_counted d m t outs fields framing u e n =
    let head : List ℕ = head_bytes d fields framing in
    let w : written_parts d (part.Head fields framing ∷ outs) ≡ head ++ [] =
    ap (λ l. l ++ part_bytes d (framing_in outs) (has_trailers outs) (part.Head fields framing)) e
    ∙ ap (λ o. part_bytes d o (has_trailers outs) (part.Head fields framing)) u.framing ∙ sym (append-nil head) in
    ap (λ l. carried framing (drop (length head) (take n l))) w ∙ ap (carried framing) (behind_first head [] n ∙ take_none (n - length head)) ∙ none framing
    ∙ sym (with_none d outs (part.Head fields framing) n u.framing (none_in d outs n u.framing))
  where
    none : (f : Framing) → carried f [] ≡ 0
    none NoField = refl
    none (Length m) = refl
    none Chunked = refl

untouched_counted : (d : Direction) (m : Changed) (t : Taken) (outs : List Out) (out : Out) (o : Outgoing) → Untouched t outs → written_parts d outs ≡ [] → MayGive passing_limit m t out → m.head ≡ Some o
    → Counted d o (out ∷ outs)
untouched_counted d m t outs (part.Head fields framing) o u e k h =
    subst (λ x. Counted d x (part.Head fields framing ∷ outs)) (same _ _ (sym k.1 ∙ h)) (head_counted d m t outs fields framing u e)
  where
    same : (x y : Outgoing) → Some x ≡ Some y → x ≡ y
    same x y e = cc
untouched_counted d m t outs (part.Data b) o u e k h = absurd (clash (sym k.0 ∙ u.head))
untouched_counted d m t outs (part.Trailers fields) o u e k h = absurd (clash (sym k.0.head ∙ u.head))
untouched_counted d m t outs part.End o u e k h = absurd (clash (sym k.0.head ∙ u.head))
untouched_counted d m t outs part.Nothing o u e k h =
    nothing_written d o (part.Nothing ∷ outs) u.framing
    (ap (λ l. l ++ part_bytes d (framing_in outs) (has_trailers outs) part.Nothing) e ∙ none (framing_in outs))
  where
    none : (o : Option Framing) → part_bytes d o (has_trailers outs) part.Nothing ≡ []
    none None = refl
    none (Some f) = refl

part_counted : (d : Direction) (m : Changed) (t : Taken) (outs : List Out) (out : Out) (o : Outgoing) → IsGone d m t outs → MayGive passing_limit m t out → m.head ≡ Some o
    → Counted d o outs → Counted d o (out ∷ outs)
part_counted d m t outs out o (inl (u, e)) k h i = untouched_counted d m t outs out o u e k h
part_counted d m t outs out o (inr g) k h i =
    let e : g.out ≡ o = same g.out o (sym g.chosen ∙ h) in
    subst (λ x. Counted d x (out ∷ outs)) e (gone_counted d m t outs out g k (subst (λ x. Counted d x outs) (sym e) i))
  where
    same : (x y : Outgoing) → Some x ≡ Some y → x ≡ y
    same x y e = cc

-- Along a past

head_kept : (m m' : Changed) (o : Outgoing) → m.head ≡ Some o → Grown m m' → m'.head ≡ m.head
head_kept m m' o h (inl e) = absurd (differs (sym h ∙ e))
  where
    differs : Some o ≡ None → ⊥
    differs e = cc
head_kept m m' o h (inr (inl e)) = ap (λ (x : Changed). x.head) e
head_kept m m' o h (inr (inr g)) = g.head

counted_along : (c : CourseConfig) (d : Direction) (modes : PartModes) (steps : List HalfStep) → AreSteps c d modes steps → (o : Outgoing)
    → (changed c d (progress_of c d modes steps).course).head ≡ Some o → Counted d o (parts steps)
unfolding half_rules
counted_along c d modes [] y o h = nothing_written d o [] refl refl
counted_along c d modes (Told call ∷ steps) (y, m) o h = by (λ e. counted_along c d modes steps y o e) (along c d modes steps y).1
  where
    p : Progress
    p = progress_of c d modes steps

    by : ((changed c d p.course).head ≡ Some o → Counted d o (parts steps)) → IsGone d (changed c d p.course) p.taken (parts steps) → Counted d o (parts steps)
    by i (inl (u, e)) = nothing_written d o (parts steps) u.framing e
    by i (inr g) =
        let k = along c d modes steps y in
        i (sym (head_kept (changed c d p.course) _ g.out g.chosen (told_goes c d p call k.0 m).0) ∙ h)
counted_along c d modes (Asked ∷ steps) (y, m) o h = counted_along c d modes steps y o h
counted_along c d modes (Gave out ∷ steps) (y, m) o h =
    part_counted d (changed c d (progress_of c d modes steps).course) (progress_of c d modes steps).taken (parts steps) out o (along c d modes steps y).1 m h
    (counted_along c d modes steps y o h)

-- what was given of the front and of the parts has as many body bytes as these parts say
pub given_of_parts : (p : Past) → IsPast p → (front : List ℕ) (n : ℕ)
    → given_count p.direction (becomes p).head front (take n (front ++ written_parts p.direction (parts p.steps))) ≡ data_in p.direction (parts p.steps) (n - length front)
given_of_parts p y front n = by (becomes p).head refl
  where
    written : List ℕ
    written = written_parts p.direction (parts p.steps)

    unchosen : (becomes p).head ≡ None → IsGone p.direction (becomes p) (progress p).taken (parts p.steps) → 0 ≡ data_in p.direction (parts p.steps) (n - length front)
    unchosen e (inl (u, w)) = sym (none_in p.direction (parts p.steps) (n - length front) u.framing)
    unchosen e (inr g) = absurd (differs (sym g.chosen ∙ e))
      where
        differs : Some g.out ≡ None → ⊥
        differs e = cc

    by : (o : Option Outgoing) → (becomes p).head ≡ o → given_count p.direction o front (take n (front ++ written)) ≡ data_in p.direction (parts p.steps) (n - length front)
    by None e = unchosen e (along p.config p.direction p.modes p.steps y).1
    by (Some o) e =
        let head : List ℕ = head_bytes p.direction o.fields o.framing in
        ap (carried o.framing)
        (ap (λ k. drop k (take n (front ++ written))) (length-append front head) ∙ sym (drop-drop (length head) (length front) (take n (front ++ written)))
        ∙ ap (drop (length head)) (behind_first front written n))
        ∙ counted_along p.config p.direction p.modes p.steps y o e (n - length front)
