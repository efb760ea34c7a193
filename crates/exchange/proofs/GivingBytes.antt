-- Bytes that were given, and how many of them are of the body.
use Rattle.std.proofs.Common.{refl, sym, ◌∙◌, ap, arith, subst}
use Rattle.std.proofs.Math.Seq.{take-add}
use Rattle.std.specs.Prelude.{ℕ, ◌≡◌, ◌+◌, ◌-◌, ◌<◌, ◌≤◌, Bool, true, List, [], ◌∷◌, ◌++◌, length, take, drop, Option, Some, None}
use Rattle.ext_msgs.specs.declared.modes.PartModes.{PartModes}
use Rattle.http_model.specs.Bytes.{IsPrefix}
use Rattle.http_model.specs.declared.types.Direction.{Direction}
use Rattle.http_model.specs.declared.types.Framing.{Framing}
use Rattle.http_model.specs.declared.types.Framing.TheVariants.{NoField, Length, Chunked}
use Rattle.http_model.specs.declared.types.Out.{Out}
use Rattle.http_model.specs.declared.types.Out.TheVariants as part
use Rattle.filter_model.specs.Account.{given_count}
use Rattle.filter_model.specs.Config.{CourseConfig}
use Rattle.filter_model.specs.Course.{Changed, Course, changed}
use Rattle.filter_model.specs.Given.{data_at, data_in}
use Rattle.filter_model.specs.Half.{HalfStep, Told, Asked, Gave, Given, Past, Taken, after_out, after_step, becomes, course, parts, progress, progress_of, half_rules}
use Rattle.filter_model.specs.HalfRight.{written_parts}
use Rattle.filter_model.specs.Outgoing.{IsWire}
use Rattle.filter_model.specs.Told.{told}
use Rattle.filter_model.proofs.HalfWritten.{is_first_of_wire}
use Rattle.half_machine.specs.Calls.{MayGiven}
use Rattle.half_machine.specs.Stands as machine
use Rattle.half_machine.specs.declared.half.Half.{Half}
use Rattle.h1_outlet.specs.Outlets.{Flowed, after_give, all, body_in}
use Rattle.h1_outlet.specs.Stands.{IsGiven, IsNext}
use Rattle.h1_outlet.specs.Stands as outlet
use Rattle.h1_outlet.specs.declared.going.Gave.{Gave as Bytes}
use Rattle.h1_outlet.specs.declared.outlet.Outlet.{Outlet}
use Rattle.h1_outlet.proofs.OfHalves.{body_counted}
use Rattle.exchange.specs.Flows.{Story, FlowStands, IsUnfinished, SameStory, Took}
use Rattle.exchange.specs.Giving.{Filled}
use Rattle.exchange.specs.declared.flow.Flow.{Flow}
use Rattle.exchange.proofs.Wholly.{flow_is}

-- No more body bytes are given than were handed out

unfoldable pub size_of : Out → ℕ
size_of (part.Head fields framing) = 0
size_of (part.Data bytes) = length bytes
size_of (part.Trailers fields) = 0
size_of part.End = 0
size_of part.Nothing = 0

data_most : (o : Option Framing) (n : ℕ) (out : Out) → data_at o n out ≤ size_of out
unfolding size_of
data_most None n out = omega arith
data_most (Some Chunked) n (part.Data b) = omega arith
data_most (Some NoField) n (part.Data b) = omega arith
data_most (Some (Length m)) n (part.Data b) = omega arith
data_most (Some Chunked) n (part.Head fields framing) = omega arith
data_most (Some NoField) n (part.Head fields framing) = omega arith
data_most (Some (Length m)) n (part.Head fields framing) = omega arith
data_most (Some Chunked) n (part.Trailers fields) = omega arith
data_most (Some NoField) n (part.Trailers fields) = omega arith
data_most (Some (Length m)) n (part.Trailers fields) = omega arith
data_most (Some Chunked) n part.End = omega arith
data_most (Some NoField) n part.End = omega arith
data_most (Some (Length m)) n part.End = omega arith
data_most (Some Chunked) n part.Nothing = omega arith
data_most (Some NoField) n part.Nothing = omega arith
data_most (Some (Length m)) n part.Nothing = omega arith

pub body_after : (out : Out) (t : Taken) → (after_out out t).body ≡ t.body + size_of out
unfolding size_of
body_after (part.Head fields framing) t = omega arith
body_after (part.Data b) t = refl
body_after (part.Trailers fields) t = omega arith
body_after part.End t = omega arith
body_after part.Nothing t = omega arith

data_within : (c : CourseConfig) (d : Direction) (modes : PartModes) (steps : List HalfStep) (n : ℕ) → data_in d (parts steps) n ≤ (progress_of c d modes steps).taken.body
unfolding half_rules
data_within c d modes [] n = omega arith
data_within c d modes (Told call ∷ steps) n = data_within c d modes steps n
data_within c d modes (Asked ∷ steps) n = data_within c d modes steps n
data_within c d modes (Gave out ∷ steps) n = by _ _ _ _ (data_within c d modes steps n) (data_most _ _ out) (body_after out (progress_of c d modes steps).taken)
  where
    by : (a b m k : ℕ) → a ≤ m → b ≤ size_of out → k ≡ m + size_of out → a + b ≤ k
    by a b m k l e f = omega (arith, l, e, f)

-- What was counted

abbrev count_at : Direction → Changed → List ℕ → List ℕ → ℕ
count_at d m front given = given_count d m.head front given

-- how many of the first n bytes are of the body
abbrev pub count_of : Story → ℕ → ℕ
count_of s n = given_count s.past.direction (becomes s.past).head s.flowed.front (take n (all s.flowed))

pub count_is : (s : Story) (x : Flow) → FlowStands s x → s.flowed.reply ≡ [] → (n : ℕ) → count_of s n ≡ body_in s.flowed n
count_is s x t e n =
    ap (λ f. given_count s.past.direction (becomes s.past).head s.flowed.front (take n (all f))) (flow_is s x t e)
    ∙ body_counted s.past t.is_past s.flowed.front n
    ∙ ap (λ f. body_in f n) (sym (flow_is s x t e))

pub same_becomes : (s s' : Story) → SameStory s s' → becomes s'.past ≡ becomes s.past
same_becomes s s' k =
    ap (λ c. changed c s'.past.direction (course s'.past)) k.config.0 ∙ ap (λ d. changed s.past.config d (course s'.past)) k.config.1
    ∙ ap (changed s.past.config s.past.direction) k.course

same_count : (s s' : Story) (given : List ℕ) → SameStory s s' → given_count s'.past.direction (becomes s'.past).head s'.flowed.front given
    ≡ given_count s.past.direction (becomes s.past).head s.flowed.front given
same_count s s' given k =
    ap (λ d. count_at d (becomes s'.past) s'.flowed.front given) k.config.1 ∙ ap (λ m. count_at s.past.direction m s'.flowed.front given) (same_becomes s s' k)
    ∙ ap (λ l. count_at s.past.direction (becomes s.past) l given) k.front

-- the bytes that were given are counted, also where a part was handed out since
counts_now : (s s' : Story) → IsUnfinished s → SameStory s s' → (course s'.past).given ≡ count_of s' s'.flowed.given
counts_now s s' o k =
    ap (λ (w : Course). w.given) k.course ∙ o.counts
    ∙ ap (given_count s.past.direction (becomes s.past).head s.flowed.front) (sym (ap (λ n. take n (all s'.flowed)) k.given ∙ k.first))
    ∙ sym (same_count s s' (take s'.flowed.given (all s'.flowed)) k)

-- The next bytes

record NextCounts (s : Story) (gave : Bytes) : Type 0 where
  most : (course s.past).given + gave.body ≤ (progress s.past).taken.body
  body : gave.body ≡ count_of s (s.flowed.given + length gave.bytes) - (course s.past).given

next_counts : (s : Story) (x : Flow) (max : ℕ) (gave : Bytes) → FlowStands s x → s.flowed.reply ≡ [] → (course s.past).given ≡ count_of s s.flowed.given → IsNext max s.flowed gave
    → NextCounts s gave
next_counts s x max gave t r e n =
    let f : Flowed = s.flowed in
    let a : count_of s f.given ≡ body_in f f.given = count_is s x t r f.given in
    let b : count_of s (f.given + length gave.bytes) ≡ body_in f (f.given + length gave.bytes) = count_is s x t r (f.given + length gave.bytes) in
    let k = t.outlet.body (length gave.bytes) in
    let m : body_in f (f.given + length gave.bytes) ≤ (progress s.past).taken.body = within in
    let g = n.body in
    record { most = omega (arith, e, a, k, m, g); body = omega (arith, e, a, b, g) }
  where
    within : body_in s.flowed (s.flowed.given + length gave.bytes) ≤ (progress s.past).taken.body
    within =
        subst (λ d. data_in d s.flowed.parts ((s.flowed.given + length gave.bytes) - length s.flowed.front) ≤ (progress s.past).taken.body) (sym t.way)
        (subst (λ ps. data_in s.past.direction ps ((s.flowed.given + length gave.bytes) - length s.flowed.front) ≤ (progress s.past).taken.body) (sym t.parts)
        (data_within s.past.config s.past.direction s.past.modes s.past.steps ((s.flowed.given + length gave.bytes) - length s.flowed.front)))

pub may_given : (s s' : Story) (x : Flow) (max : ℕ) (gave : Bytes) → IsUnfinished s → FlowStands s' x → SameStory s s' → IsNext max s'.flowed gave → MayGiven s'.past gave.body
may_given s s' x max gave o t k n = record { fewer = (next_counts s' x max gave t (k.reply ∙ o.reply) (counts_now s s' o k) n).most }

-- a story with these bytes given
abbrev pub with_bytes : Bytes → Story → Story
with_bytes gave s = record s { past = after_step (Told (Given gave.body)) s.past; flowed = record s.flowed { given = s.flowed.given + length gave.bytes } }

told_given : (p : Past) (n : ℕ) → course (after_step (Told (Given n)) p) ≡ told p.config p.direction (Given n ∷ []) (course p)
unfolding half_rules
told_given p n = refl

handed_given : (p : Past) (n : ℕ) → (progress (after_step (Told (Given n)) p)).handed ≡ (progress p).handed
unfolding half_rules
handed_given p n = refl

some_of : (n : ℕ) → 1 ≤ n → 0 < n
some_of n l = omega (arith, l)

pub bytes_gone : (s s' : Story) (x : Flow) (max : ℕ) (gave : Bytes) (h : Half) (y : Outlet) → IsUnfinished s → FlowStands s' x → SameStory s s' → IsNext max s'.flowed gave
    → machine.StandsFor (after_step (Told (Given gave.body)) s'.past) h → outlet.StandsFor (record s'.flowed { given = s'.flowed.given + length gave.bytes }) y
    → Took max s (Some gave.bytes) (record x { half = h; outlet = y })
bytes_gone s s' x max gave h y o t k n th ty = (
  with_bytes gave s',
  record { reader = t.reader; half = th; outlet = ty; is_past = (t.is_past, counts.most); parts = t.parts; way = t.way },
  record {
    source = k.source;
    config = k.config;
    handed = handed_given s'.past gave.body ∙ k.handed;
    front = k.front;
    reply = k.reply ∙ o.reply;
    some = some_of (length gave.bytes) n.least;
    most = n.most;
    given = ap (λ m. m + length gave.bytes) k.given;
    next = take-add s'.flowed.given (length gave.bytes) (all s'.flowed)
        ∙ ap (λ l. l ++ take (length gave.bytes) (drop s'.flowed.given (all s'.flowed))) (ap (λ m. take m (all s'.flowed)) k.given ∙ k.first)
        ∙ ap (λ l. take s.flowed.given (all s.flowed) ++ l) (sym n.bytes);
    told = told_given s'.past gave.body
        ∙ ap (λ c. told c s'.past.direction (Given gave.body ∷ []) (course s'.past)) k.config.0
        ∙ ap (λ d. told s.past.config d (Given gave.body ∷ []) (course s'.past)) k.config.1
        ∙ ap (told s.past.config s.past.direction (Given gave.body ∷ [])) k.course
        ∙ ap (λ m. told s.past.config s.past.direction (Given m ∷ []) (course s.past))
        (counts.body ∙ ap (λ m. m - (course s'.past).given) (same_count s s' (take (s'.flowed.given + length gave.bytes) (all s'.flowed)) k)
        ∙ ap (λ (w : Course). given_count s.past.direction (becomes s.past).head s.flowed.front (take (s'.flowed.given + length gave.bytes) (all s'.flowed)) - w.given) k.course);
    wire = wire;
  },
)
  where
    counts : NextCounts s' gave
    counts = next_counts s' x max gave t (k.reply ∙ o.reply) (counts_now s s' o k) n

    wire : (wire : List ℕ) × IsWire s.past.direction (becomes s.past) wire × IsPrefix (written_parts s.past.direction s'.flowed.parts) wire
    wire =
        subst (λ d. (wire : List ℕ) × IsWire d (becomes s.past) wire × IsPrefix (written_parts d s'.flowed.parts) wire) k.config.1
        (subst (λ m. (wire : List ℕ) × IsWire s'.past.direction m wire × IsPrefix (written_parts s'.past.direction s'.flowed.parts) wire) (same_becomes s s' k)
        (subst (λ ps. (wire : List ℕ) × IsWire s'.past.direction (becomes s'.past) wire × IsPrefix (written_parts s'.past.direction ps) wire) (sym t.parts)
        (is_first_of_wire s'.past t.is_past)))

-- what a call that gave bytes says
pub next_of : (max : ℕ) (f : Flowed) (o : Option Bytes) (gave : Bytes) → o ≡ Some gave → IsGiven max f o → IsNext max f gave
next_of max f o gave e k = subst (IsGiven max f) e k

pub stands_of : (f : Flowed) (o : Option Bytes) (gave : Bytes) (y : Outlet) → o ≡ Some gave → outlet.StandsFor (after_give o f) y
    → outlet.StandsFor (record f { given = f.given + length gave.bytes }) y
stands_of f o gave y e k = subst (λ p. outlet.StandsFor (after_give p f) y) e k

pub filled_by : (s : Story) (b : Bool) (x : Flow) → b ≡ true → Filled s b x → Filled s true x
filled_by s b x e k = subst (λ w. Filled s w x) e k

-- bytes that wait are given
pub none_waits : (f : Flowed) (max : ℕ) (o : Option Bytes) → f.given < length (all f) → IsGiven max f o → ((gave : Bytes) → o ≡ Some gave → ⊥) → ⊥
none_waits f max None l e n = omega (arith, l, e)
none_waits f max (Some gave) l e n = n gave refl
