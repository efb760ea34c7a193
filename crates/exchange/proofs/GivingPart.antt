-- A part that a half hands out goes to its outlet, once nothing waits.
use Rattle.std.proofs.Common.{refl, sym, ◌∙◌, ap, arith, subst, append-nil, length-append}
use Rattle.std.proofs.lemmas.Bool.{eqb-true}
use Rattle.std.proofs.lemmas.List.{append_assoc, take-append-le}
use Rattle.std.specs.Prelude.{ℕ, ◌≡◌, ◌==◌, ◌+◌, ◌<◌, true, false, List, [], ◌∷◌, ◌++◌, length, take}
use Rattle.http_model.specs.declared.types.Out.{Out}
use Rattle.http_model.specs.declared.types.Out.TheVariants as part
use Rattle.filter_model.specs.AllGiven.{is_all_handed, is_nothing}
use Rattle.filter_model.specs.Half.{Past, Gave, MayGive, after_step, becomes, course, progress, parts, half_rules}
use Rattle.filter_model.specs.HalfRight.{IsPast, framing_in, has_trailers, part_bytes, written_parts}
use Rattle.filter_model.specs.Outgoing.{IsWire}
use Rattle.filter_model.proofs.AllGiven.{more_bytes, no_framing}
use Rattle.filter_model.proofs.HalfWritten.{is_all_of_wire}
use Rattle.half_machine.specs.Stands as machine
use Rattle.half_machine.specs.declared.half.Half.{Half}
use Rattle.h1_outlet.specs.Outlets.{Flowed, all, with_part}
use Rattle.h1_outlet.specs.Stands.{IsPlaced, MayPut}
use Rattle.h1_outlet.specs.Stands as outlet
use Rattle.h1_outlet.specs.declared.outlet.Outlet.{Outlet}
use Rattle.exchange.specs.Flows.{Story, FlowStands, IsUnfinished, SameStory}
use Rattle.exchange.specs.Giving.{Filled}
use Rattle.exchange.specs.declared.flow.Flow.{Flow}
use Rattle.exchange.proofs.Wholly.{whole_where_empty}

pub same_story : (s : Story) → SameStory s s
same_story s = record {
  source = refl;
  config = (refl, refl);
  course = refl;
  handed = refl;
  front = refl;
  reply = refl;
  given = refl;
  first = refl;
}

-- No part may go

take_whole : (n : ℕ) (xs : List ℕ) → n ≡ length xs → take n xs ≡ xs
take_whole n xs e = ap (λ k. take k xs) e ∙ by xs
  where
    by : (xs : List ℕ) → take (length xs) xs ≡ xs
    by [] = refl
    by (x ∷ xs) = ap (λ l. x ∷ l) (by xs)

pub nothing_waits : (s : Story) (x : Flow) (h : Half) → FlowStands s x → h ≡ x.half → (s.flowed.given == length (all s.flowed)) ≡ true
    → MayGive 16_384 (becomes s.past) (progress s.past).taken part.Nothing → Filled s false (record x { half = h })
nothing_waits s x h t e k m = (
  record {
    given = take_whole s.flowed.given (all s.flowed) (eqb-true s.flowed.given (length (all s.flowed)) k);
    wire = subst (λ ps. IsWire s.past.direction (becomes s.past) (written_parts s.past.direction ps)) (sym t.parts) (is_all_of_wire s.past t.is_past m);
  },
  record { reader = t.reader; half = subst (machine.StandsFor s.past) (sym e) t.half; outlet = t.outlet; is_past = t.is_past; parts = t.parts; way = t.way },
)

-- A part more

placed : (s : Story) (out : Out) → IsPast s.past → s.flowed.parts ≡ parts s.past.steps → MayGive 16_384 (becomes s.past) (progress s.past).taken out → IsPlaced s.flowed out
placed s (part.Head fields framing) y e k = ap framing_in e ∙ no_framing s.past y k.0
placed s (part.Data bytes) y e k = tt
placed s (part.Trailers fields) y e k = tt
placed s part.End y e k = tt
placed s part.Nothing y e k = tt

pub may_put : (s : Story) (x : Flow) (out : Out) → FlowStands s x → IsUnfinished s → (s.flowed.given == length (all s.flowed)) ≡ true
    → MayGive 16_384 (becomes s.past) (progress s.past).taken out → MayPut s.flowed out
may_put s x out t o k m = record {
  idle = eqb-true s.flowed.given (length (all s.flowed)) k;
  reply = o.reply;
  placed = placed s out t.is_past t.parts m;
}

abbrev bytes_of : Flowed → Out → List ℕ
bytes_of f out = part_bytes f.direction (framing_in f.parts) (has_trailers f.parts) out

-- what was put comes behind all
all_more : (f : Flowed) (out : Out) → f.reply ≡ [] → all (with_part out f) ≡ all f ++ bytes_of f out
all_more f out e =
    ap (λ r. f.front ++ written_parts f.direction (out ∷ f.parts) ++ r) e ∙ append-nil (f.front ++ (written_parts f.direction f.parts ++ bytes_of f out))
    ∙ sym (append_assoc f.front (written_parts f.direction f.parts) (bytes_of f out))
    ∙ ap (λ l. l ++ bytes_of f out) (sym (append-nil (f.front ++ written_parts f.direction f.parts)) ∙ ap (λ r. f.front ++ written_parts f.direction f.parts ++ r) (sym e))

-- a story with a part more
abbrev pub with_out : Out → Story → Story
with_out out s = record s { past = after_step (Gave out) s.past; flowed = with_part out s.flowed }

same_course : (p : Past) (out : Out) → course (after_step (Gave out) p) ≡ course p
unfolding half_rules
same_course p out = refl

same_handed : (p : Past) (out : Out) → (progress (after_step (Gave out) p)).handed ≡ (progress p).handed
unfolding half_rules
same_handed p out = refl

some_bytes : (s : Story) (x : Flow) (out : Out) → FlowStands s x → IsUnfinished s → (s.flowed.given == length (all s.flowed)) ≡ true
    → MayGive 16_384 (becomes s.past) (progress s.past).taken out → is_nothing out ≡ false → 0 < length (bytes_of s.flowed out)
some_bytes s x out t o k m n =
    let unfinished : is_all_handed (becomes s.past) (progress s.past).taken ≡ false = whole_where_empty s x t o.reply k ∙ o.unfinished in
    let b : 0 < length (part_bytes s.past.direction (framing_in (parts s.past.steps)) (has_trailers (parts s.past.steps)) out) = more_bytes s.past t.is_past 16_384 out m n unfinished in
    subst (λ d. 0 < length (part_bytes d (framing_in s.flowed.parts) (has_trailers s.flowed.parts) out)) (sym t.way)
    (subst (λ ps. 0 < length (part_bytes s.past.direction (framing_in ps) (has_trailers ps) out)) (sym t.parts) b)

pub part_waits : (s : Story) (x : Flow) (out : Out) (h : Half) (y : Outlet) → FlowStands s x → IsUnfinished s → (s.flowed.given == length (all s.flowed)) ≡ true
    → MayGive 16_384 (becomes s.past) (progress s.past).taken out → is_nothing out ≡ false → machine.StandsFor (after_step (Gave out) s.past) h
    → outlet.StandsFor (with_part out s.flowed) y → Filled s true (record x { half = h; outlet = y })
part_waits s x out h y t o k m n th ty = (
  with_out out s,
  record { reader = t.reader; half = th; outlet = ty; is_past = (t.is_past, m); parts = ap (λ ps. out ∷ ps) t.parts; way = t.way },
  record {
    source = refl;
    config = (refl, refl);
    course = same_course s.past out;
    handed = same_handed s.past out;
    front = refl;
    reply = refl;
    given = refl;
    first = ap (take s.flowed.given) (all_more s.flowed out o.reply) ∙ take-append-le s.flowed.given (all s.flowed) (bytes_of s.flowed out) t.outlet.within;
  },
  by (eqb-true s.flowed.given (length (all s.flowed)) k) (ap length (all_more s.flowed out o.reply) ∙ length-append (all s.flowed) (bytes_of s.flowed out))
      (some_bytes s x out t o k m n),
)
  where
    by : s.flowed.given ≡ length (all s.flowed) → length (all (with_part out s.flowed)) ≡ length (all s.flowed) + length (bytes_of s.flowed out) → 0 < length (bytes_of s.flowed out)
        → s.flowed.given < length (all (with_part out s.flowed))
    by e l b = omega (arith, e, l, b)
