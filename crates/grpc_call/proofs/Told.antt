-- What a reader tells of its stream's events.
use Rattle.std.proofs.Common.{arith, ◌≡◌, ◌≢◌, ℕ, ◌+◌, ◌-◌, ◌≤◌, ◌==◌, ◌&&◌, not, Bool, true, false, List, [], ◌∷◌, ◌++◌, length, take, drop, refl, sym, ◌∙◌, ap, subst, if◌then◌else◌, Option, Some, None, Result, Ok, Err, inl, inr, length-append, append-nil, append_assoc, map}
use Rattle.std.proofs.Math.Bool.{and-true, and-false}
use Rattle.std.proofs.lemmas.List.{map-append, length-take-le, take-append-drop}
use Rattle.std.specs.Prelude.{codes}
use Rattle.h2_frames.specs.Numbers.{u32_at}
use Rattle.ext_msgs.specs.declared.lists.Field.{Field}
use Rattle.h2_model.specs.declared.answers.Event.{Event}
use Rattle.h2_model.specs.declared.answers.Event.TheVariants as event
use Rattle.h2_model.specs.StreamFaults.{is_interim}
use Rattle.grpc_call.specs.declared.fault.CallFault.{CallFault}
use Rattle.grpc_call.specs.declared.fault.CallFault.TheVariants.{Head, Compressed, TooLong, Cut, NoStatus, Memory}
use Rattle.grpc_call.specs.declared.heads.Block.{Block}
use Rattle.grpc_call.specs.declared.heads.Block.TheVariants.{Skips, Begins, Ends, Refuses}
use Rattle.grpc_call.specs.Framed.{Beginning, Unfinished, Refused, Whole, first, Framed, framed, framed_by}
use Rattle.grpc_call.specs.Blocks.{block_of, ended_with, first_value, is_call_type, is_right_status, is_some_byte, status_of}
use Rattle.grpc_call.specs.Reading.{Response, begun, block_in, headed_by, told_by, ended_behind, Keeps, Gives, Fails, taken, taken_by, ReadsData}
use Rattle.grpc_call.specs.Items.{Item, Message, Closed, Ending, Status, Failed, Heard, with_block, with_data, with_event, unless_over, heard, closing, last_items, items_of, items, StandsFor, told_of, IsOver, HeadTold, DataTold}
use Rattle.grpc_call.proofs.First.{first_short, IsWhole, whole_says}
use Rattle.grpc_call.proofs.Messages.{not_before}
use Rattle.grpc_call.proofs.Cuts.{first_stays, message_size, framed_is, after, added, one_message}

pub begins : (limit : ℕ) → StandsFor (begun limit) []
begins limit =
    let none = framed_is limit [] ∙ ap (λ (x : Beginning). framed_by x [] (λ rest. framed limit rest)) (first_short limit [] (omega arith)) in
    record { headed = refl; rest = sym (ap (λ (f : Framed). f.rest) none); right = ap (λ (f : Framed). f.fault) none; goes_on = refl }

-- a stream that goes on hears an event
hears : (r : Response) (events : List Event) (e : Event) → StandsFor r events → heard (e ∷ events) ≡ with_event e (heard events)
hears r events e s = ap (λ o. unless_over o e (heard events)) s.goes_on

-- what it brought so far
so_far : (r : Response) (events : List Event) → StandsFor r events → items r.limit events ≡ map Message (framed r.limit (heard events).content).messages
so_far r events s =
    let f : Framed = framed r.limit (heard events).content in
    ap (λ o. map Message f.messages ++ last_items o (heard events).ending f.rest) s.right ∙ ap (λ o. map Message f.messages ++ closing o f.rest) s.goes_on
    ∙ append-nil (map Message f.messages)

-- ---- DATA

hears_data : (r : Response) (events : List Event) (id : ℕ) (bytes : List ℕ) (last : Bool) → StandsFor r events → r.headed ≡ true
    → heard (event.Data id bytes last ∷ events) ≡ record { headed = true; content = (heard events).content ++ bytes; ending = if last then Some Failed else None }
hears_data r events id bytes last s h = hears r events (event.Data id bytes last) s ∙ by last (heard events).headed (sym s.headed ∙ h) (heard events).ending s.goes_on
  where
    by : (last b : Bool) → b ≡ true → (o : Option Ending) → o ≡ None
        → with_data bytes last (record { headed = b; content = (heard events).content; ending = o }) ≡ record { headed = true; content = (heard events).content ++ bytes; ending = if last then Some Failed else None }
    by true b e o f = λ i. record { headed = e i; content = if e i then (heard events).content ++ bytes else (heard events).content; ending = if e i && false then o else Some Failed }
    by false b e o f = λ i. record { headed = e i; content = if e i then (heard events).content ++ bytes else (heard events).content; ending = if e i && true then f i else Some Failed }

-- its messages then
finds : (r : Response) (events : List Event) (bytes : List ℕ) → StandsFor r events
    → framed r.limit ((heard events).content ++ bytes) ≡ after (framed r.limit (heard events).content) (framed r.limit (r.rest ++ bytes))
finds r events bytes s =
    (added r.limit (heard events).content bytes).goes_on s.right
    ∙ ap (λ (b : List ℕ). after (framed r.limit (heard events).content) (framed r.limit (b ++ bytes))) (sym s.rest)

-- what it brings, by what stands behind the messages so far
brings : (r : Response) (events : List Event) (id : ℕ) (bytes : List ℕ) (last : Bool) (g : Framed) → StandsFor r events → r.headed ≡ true → framed r.limit (r.rest ++ bytes) ≡ g
    → items r.limit (event.Data id bytes last ∷ events) ≡ items r.limit events ++ items_of g (if last then Some Failed else None)
brings r events id bytes last g s h e =
    let f : Framed = framed r.limit (heard events).content in
    let ending : Option Ending = if last then Some Failed else None in
    ap (λ (x : Heard). items_of (framed r.limit x.content) x.ending) (hears_data r events id bytes last s h)
    ∙ ap (λ (x : Framed). items_of x ending) (finds r events bytes s ∙ ap (after f) e)
    ∙ ap (λ (ms : List Item). ms ++ last_items g.fault ending g.rest) (map-append Message f.messages g.messages)
    ∙ append_assoc (map Message f.messages) (map Message g.messages) (last_items g.fault ending g.rest)
    ∙ ap (λ (ms : List Item). ms ++ items_of g ending) (sym (so_far r events s))

-- a reader that goes on behind it
stands : (r : Response) (events : List Event) (id : ℕ) (bytes rest : List ℕ) (ms : List (List ℕ)) → StandsFor r events → r.headed ≡ true
    → framed r.limit (r.rest ++ bytes) ≡ record { messages = ms; rest = rest; fault = None } → StandsFor (record r { rest = rest }) (event.Data id bytes false ∷ events)
stands r events id bytes rest ms s h e =
    let now = hears_data r events id bytes false s h in
    let f = ap (λ (x : Heard). framed r.limit x.content) now ∙ finds r events bytes s ∙ ap (after (framed r.limit (heard events).content)) e in
    record {
      headed = h ∙ sym (ap (λ (x : Heard). x.headed) now);
      rest = sym (ap (λ (x : Framed). x.rest) f);
      right = ap (λ (x : Framed). x.fault) f;
      goes_on = ap (λ (x : Heard). x.ending) now;
    }

-- what is taken, case by case
record IsKeeping (r : Response) (bytes : List ℕ) (last : Bool) : Type 0 where
  headed : r.headed ≡ true
  waits : first r.limit (r.rest ++ bytes) ≡ Unfinished
  open_still : last ≡ false

keeping : (r : Response) (bytes : List ℕ) (last : Bool) → taken r bytes last ≡ Keeps → IsKeeping r bytes last
keeping r bytes last e = by_head r.headed refl (first r.limit (r.rest ++ bytes)) refl last e
  where
    by_first : (x : Beginning) → first r.limit (r.rest ++ bytes) ≡ x → r.headed ≡ true → (l : Bool) → taken_by x r bytes l ≡ Keeps → IsKeeping r bytes l
    by_first Unfinished f h false e = record { headed = h; waits = f; open_still = refl }
    by_first Unfinished f h true e = absurd cc
    by_first (Refused x) f h l e = absurd cc
    by_first (Whole m) f h l e = absurd cc

    by_head : (b : Bool) → r.headed ≡ b → (x : Beginning) → first r.limit (r.rest ++ bytes) ≡ x → (l : Bool) → (if b then taken_by x r bytes l else Fails Head) ≡ Keeps → IsKeeping r bytes l
    by_head true h x f l e = by_first x f h l e
    by_head false h x f l e = absurd cc

record IsGiving (r : Response) (bytes message : List ℕ) (used : ℕ) : Type 0 where
  headed : r.headed ≡ true
  whole : first r.limit (r.rest ++ bytes) ≡ Whole message
  used_is : used ≡ 5 + length message - length r.rest

giving : (r : Response) (bytes : List ℕ) (last : Bool) (message : List ℕ) (used : ℕ) → taken r bytes last ≡ Gives message used → IsGiving r bytes message used
giving r bytes last message used e = by_head r.headed refl (first r.limit (r.rest ++ bytes)) refl last e
  where
    by_first : (x : Beginning) → first r.limit (r.rest ++ bytes) ≡ x → r.headed ≡ true → (l : Bool) → taken_by x r bytes l ≡ Gives message used → IsGiving r bytes message used
    by_first Unfinished f h false e = absurd cc
    by_first Unfinished f h true e = absurd cc
    by_first (Refused x) f h l e = absurd cc
    by_first (Whole m) f h l e =
        let same : m ≡ message = cc in
        let number : 5 + length m - length r.rest ≡ used = cc in
        record { headed = h; whole = f ∙ ap Whole same; used_is = sym number ∙ ap (λ (b : List ℕ). 5 + length b - length r.rest) same }

    by_head : (b : Bool) → r.headed ≡ b → (x : Beginning) → first r.limit (r.rest ++ bytes) ≡ x → (l : Bool) → (if b then taken_by x r bytes l else Fails Head) ≡ Gives message used → IsGiving r bytes message used
    by_head true h x f l e = by_first x f h l e
    by_head false h x f l e = absurd cc

pub data Failing (r : Response) (bytes : List ℕ) (last : Bool) (fault : CallFault) : Type 0 where
  headless : r.headed ≡ false → fault ≡ Head → Failing r bytes last fault
  refusing : r.headed ≡ true → first r.limit (r.rest ++ bytes) ≡ Refused fault → Failing r bytes last fault
  ended_early : r.headed ≡ true → first r.limit (r.rest ++ bytes) ≡ Unfinished → last ≡ true → fault ≡ ended_behind r.rest bytes → Failing r bytes last fault

failing : (r : Response) (bytes : List ℕ) (last : Bool) (fault : CallFault) → taken r bytes last ≡ Fails fault → Failing r bytes last fault
failing r bytes last fault e = by_head r.headed refl (first r.limit (r.rest ++ bytes)) refl last e
  where
    by_first : (x : Beginning) → first r.limit (r.rest ++ bytes) ≡ x → r.headed ≡ true → (l : Bool) → taken_by x r bytes l ≡ Fails fault → Failing r bytes l fault
    by_first Unfinished f h false e = absurd cc
    by_first Unfinished f h true e = ended_early h f refl (cc)
    by_first (Refused x) f h l e = let same : x ≡ fault = cc in refusing h (f ∙ ap Refused same)
    by_first (Whole m) f h l e = absurd cc

    by_head : (b : Bool) → r.headed ≡ b → (x : Beginning) → first r.limit (r.rest ++ bytes) ≡ x → (l : Bool) → (if b then taken_by x r bytes l else Fails Head) ≡ Fails fault → Failing r bytes l fault
    by_head true h x f l e = by_first x f h l e
    by_head false h x f l e = headless h (cc)

unfinished_is : (limit : ℕ) (bytes : List ℕ) → first limit bytes ≡ Unfinished → framed limit bytes ≡ record { messages = []; rest = bytes; fault = None }
unfinished_is limit bytes e = framed_is limit bytes ∙ ap (λ (x : Beginning). framed_by x bytes (λ rest. framed limit rest)) e

refused_is : (limit : ℕ) (bytes : List ℕ) (fault : CallFault) → first limit bytes ≡ Refused fault → framed limit bytes ≡ record { messages = []; rest = bytes; fault = Some fault }
refused_is limit bytes fault e = framed_is limit bytes ∙ ap (λ (x : Beginning). framed_by x bytes (λ rest. framed limit rest)) e

-- the message is there with the bytes that are used
by_used : (limit : ℕ) (rest bytes message : List ℕ) (used : ℕ) → first limit rest ≡ Unfinished → first limit (rest ++ bytes) ≡ Whole message
    → used ≡ 5 + length message - length rest → used ≤ length bytes → framed limit (rest ++ take used bytes) ≡ record { messages = message ∷ []; rest = []; fault = None }
by_used limit rest bytes message used u w e l =
    one_message limit (rest ++ take used bytes) message whole len
  where
    says : IsWhole limit (rest ++ bytes) message
    says = whole_says limit (rest ++ bytes) message w

    parts : rest ++ bytes ≡ rest ++ take used bytes ++ drop used bytes
    parts = ap (λ (b : List ℕ). rest ++ b) (sym (take-append-drop used bytes)) ∙ sym (append_assoc rest (take used bytes) (drop used bytes))

    number : length message ≡ u32_at (rest ++ bytes) 1
    number = message_size limit (rest ++ bytes) message w

    len : length (rest ++ take used bytes) ≡ 5 + length message
    len =
        let all = length-append rest (take used bytes) in
        let short = length-take-le used bytes l in
        let before = not_before limit rest bytes message u w in
        let n = number in
        omega arith

    told : first limit (rest ++ take used bytes) ≢ Unfinished
    told v =
        let again = not_before limit (rest ++ take used bytes) (drop used bytes) message v (ap (first limit) (sym parts) ∙ w) in
        let same = ap (λ (b : List ℕ). u32_at b 1) parts in
        let n = number in
        let m = len in
        absurd (omega arith)

    whole : first limit (rest ++ take used bytes) ≡ Whole message
    whole = sym (first_stays limit (rest ++ take used bytes) (drop used bytes) told) ∙ ap (first limit) (sym parts) ∙ w

-- a fault of the messages is told as one
told_once : (fault : CallFault) (ending : Option Ending) (rest : List ℕ) → last_items (Some fault) ending rest ≡ told_of fault ∷ []
told_once Head ending rest = refl
told_once Compressed ending rest = refl
told_once (TooLong size) ending rest = refl
told_once Cut ending rest = refl
told_once NoStatus ending rest = refl
told_once Memory ending rest = refl

told_early : (rest bytes : List ℕ) → told_of (ended_behind rest bytes) ≡ Closed false
told_early rest bytes = by (is_some_byte (rest ++ bytes))
  where
    by : (b : Bool) → told_of (if b then Cut else NoStatus) ≡ Closed false
    by true = refl
    by false = refl

fails : (r : Response) (events : List Event) (id : ℕ) (bytes : List ℕ) (last : Bool) (fault : CallFault) → StandsFor r events → Failing r bytes last fault
    → items r.limit (event.Data id bytes last ∷ events) ≡ items r.limit events ++ (told_of fault ∷ [])
fails r events id bytes last fault s (headless h e) =
    ap (λ (x : Heard). items_of (framed r.limit x.content) x.ending) (hears r events (event.Data id bytes last) s)
    ∙ by (heard events).headed (sym s.headed ∙ h)
    ∙ ap (λ (ms : List Item). ms ++ (Closed false ∷ [])) (sym (so_far r events s)) ∙ ap (λ x. items r.limit events ++ (told_of x ∷ [])) (sym e)
  where
    f : Framed
    f = framed r.limit (heard events).content

    by : (b : Bool) → b ≡ false → items_of (framed r.limit (if b then (heard events).content ++ bytes else (heard events).content)) (if b && not last then (heard events).ending else Some Failed)
        ≡ map Message f.messages ++ (Closed false ∷ [])
    by true e = absurd cc
    by false e = ap (λ o. map Message f.messages ++ last_items o (Some Failed) f.rest) s.right
fails r events id bytes last fault s (refusing h w) =
    brings r events id bytes last _ s h (refused_is r.limit (r.rest ++ bytes) fault w)
    ∙ ap (λ (ms : List Item). items r.limit events ++ ms) (told_once fault (if last then Some Failed else None) (r.rest ++ bytes))
fails r events id bytes last fault s (ended_early h w l e) =
    brings r events id bytes last _ s h (unfinished_is r.limit (r.rest ++ bytes) w)
    ∙ ap (λ b. items r.limit events ++ closing (if b then Some Failed else None) (r.rest ++ bytes)) l
    ∙ ap (λ x. items r.limit events ++ (x ∷ [])) (sym (told_early r.rest bytes)) ∙ ap (λ x. items r.limit events ++ (told_of x ∷ [])) (sym e)

pub of_data : (r new : Response) (events : List Event) (id : ℕ) (bytes : List ℕ) (last : Bool) (result : Result (Option (List ℕ × ℕ)) CallFault)
    → StandsFor r events → ReadsData r bytes last result new → DataTold r events id bytes last result new
of_data r new events id bytes last (Ok None) s (t, n) =
    let k = keeping r bytes last t in
    let g = unfinished_is r.limit (r.rest ++ bytes) k.waits in (
      k.open_still,
      subst (λ x. StandsFor x (event.Data id bytes false ∷ events)) (sym n) (stands r events id bytes (r.rest ++ bytes) [] s k.headed g),
      brings r events id bytes false _ s k.headed g ∙ append-nil (items r.limit events),
    )
of_data r new events id bytes last (Ok (Some (message, used))) s (t, l, n) =
    let k = giving r bytes last message used t in
    let waits = subst (λ b. first r.limit b ≡ Unfinished) (sym s.rest) ((added r.limit (heard events).content []).waits s.right) in
    let g = by_used r.limit r.rest bytes message used waits k.whole k.used_is l in (
      subst (λ x. StandsFor x (event.Data id (take used bytes) false ∷ events)) (sym n) (stands r events id (take used bytes) [] (message ∷ []) s k.headed g),
      brings r events id (take used bytes) false _ s k.headed g,
    )
of_data r new events id bytes last (Err Head) s (t, n) = fails r events id bytes last Head s (failing r bytes last Head t)
of_data r new events id bytes last (Err Compressed) s (t, n) = fails r events id bytes last Compressed s (failing r bytes last Compressed t)
of_data r new events id bytes last (Err (TooLong size)) s (t, n) = fails r events id bytes last (TooLong size) s (failing r bytes last (TooLong size) t)
of_data r new events id bytes last (Err Cut) s (t, n) = fails r events id bytes last Cut s (failing r bytes last Cut t)
of_data r new events id bytes last (Err NoStatus) s (t, n) = fails r events id bytes last NoStatus s (failing r bytes last NoStatus t)
of_data r new events id bytes last (Err Memory) s n = subst (λ x. StandsFor x events) (sym n) s

-- ---- blocks

-- a block that is read within a message or not, by whether one is unfinished
data Related (within : Bool) : Block → Block → Type 0 where
  skips : Related within Skips Skips
  opens : Related within Begins Begins
  ended : (status : ℕ) → within ≡ false → Related within (Ends status) (Ends status)
  cut : (status : ℕ) → within ≡ true → Related within (Ends status) (Refuses Cut)
  refuses : (f g : CallFault) → Related within (Refuses f) (Refuses g)

ending_related : (within : Bool) (status : Option ℕ) → Related within (ended_with false status) (ended_with within status)
ending_related true None = refuses NoStatus Cut
ending_related true (Some status) = cut status refl
ending_related false None = refuses NoStatus NoStatus
ending_related false (Some status) = ended status refl

related : (headed within : Bool) (fields : List Field) (last : Bool) → Related within (block_of headed false fields last) (block_of headed within fields last)
unfolding block_of
related headed within fields last = by (is_interim fields) last (is_right_status headed (first_value (codes ":status") fields)) (is_call_type fields)
  where
    by : (a l b d : Bool) → Related within
        (if a then (if l then Refuses Head else Skips) else (if not b then Refuses Head else (if l then ended_with false (status_of fields) else (if d then Begins else Refuses Head))))
        (if a then (if l then Refuses Head else Skips) else (if not b then Refuses Head else (if l then ended_with within (status_of fields) else (if d then Begins else Refuses Head))))
    by true true b d = refuses Head Head
    by true false b d = skips
    by false l false d = refuses Head Head
    by false true true d = ending_related within (status_of fields)
    by false false true true = opens
    by false false true false = refuses Head Head

-- what a block told, once the items so far are known
closes : (r : Response) (events : List Event) (e : Event) (h : Heard) (ending : Ending) (x : Bool) → StandsFor r events → heard (e ∷ events) ≡ h → h.content ≡ (heard events).content
    → h.ending ≡ Some ending → closing (Some ending) r.rest ≡ Closed x ∷ [] → items r.limit (e ∷ events) ≡ items r.limit events ++ (Closed x ∷ [])
closes r events e h ending x s now same ends told =
    let f : Framed = framed r.limit (heard events).content in
    ap (λ (y : Heard). items_of (framed r.limit y.content) y.ending) now ∙ ap (λ (b : List ℕ). items_of (framed r.limit b) h.ending) same
    ∙ ap (λ o. map Message f.messages ++ last_items o h.ending f.rest) s.right ∙ ap (λ o. map Message f.messages ++ closing o f.rest) ends
    ∙ ap (λ (b : List ℕ). map Message f.messages ++ closing (Some ending) b) (sym s.rest) ∙ ap (λ (ms : List Item). map Message f.messages ++ ms) told
    ∙ ap (λ (ms : List Item). ms ++ (Closed x ∷ [])) (sym (so_far r events s))

-- a stream of which only the head is new
goes_on : (r new : Response) (events : List Event) (e : Event) (h : Heard) → StandsFor r events → heard (e ∷ events) ≡ h → h.content ≡ (heard events).content → h.ending ≡ (heard events).ending
    → new ≡ record r { headed = h.headed } → StandsFor new (e ∷ events) × (items r.limit (e ∷ events) ≡ items r.limit events)
goes_on r new events e h s now same open_still is =
    let content : (heard (e ∷ events)).content ≡ (heard events).content = ap (λ (y : Heard). y.content) now ∙ same in
    let ending : (heard (e ∷ events)).ending ≡ (heard events).ending = ap (λ (y : Heard). y.ending) now ∙ open_still in
    let state : StandsFor (record r { headed = h.headed }) (e ∷ events) = record {
      headed = sym (ap (λ (y : Heard). y.headed) now);
      rest = s.rest ∙ ap (λ (b : List ℕ). (framed r.limit b).rest) (sym content);
      right = ap (λ (b : List ℕ). (framed r.limit b).fault) content ∙ s.right;
      goes_on = ending ∙ s.goes_on;
    } in
    (subst (λ x. StandsFor x (e ∷ events)) (sym is) state, λ i. items_of (framed r.limit (content i)) (ending i))

by_related : (r : Response) (events : List Event) (id : ℕ) (fields : List Field) (last : Bool) {a b : Block} → Related (is_some_byte r.rest) a b → StandsFor r events
    → heard (event.Head id fields last ∷ events) ≡ with_block a (heard events)
    → HeadTold r events (event.Head id fields last) (told_by b) (headed_by b r)
by_related r events id fields last skips s now =
    goes_on r r events (event.Head id fields last) (heard events) s now refl refl (λ i. record { limit = r.limit; headed = s.headed i; rest = r.rest })
by_related r events id fields last opens s now =
    goes_on r (record r { headed = true }) events (event.Head id fields last) (record (heard events) { headed = true }) s now refl refl refl
by_related r events id fields last (ended status w) s now =
    closes r events (event.Head id fields last) (record (heard events) { ending = Some (Status status) }) (Status status) (status == 0) s now refl refl
    (ap (λ b. Closed ((status == 0) && not b) ∷ []) w ∙ ap (λ b. Closed b ∷ []) (and-true (status == 0)))
by_related r events id fields last (cut status w) s now =
    closes r events (event.Head id fields last) (record (heard events) { ending = Some (Status status) }) (Status status) false s now refl refl
    (ap (λ b. Closed ((status == 0) && not b) ∷ []) w ∙ ap (λ b. Closed b ∷ []) (and-false (status == 0)))
by_related r events id fields last (refuses f g) s now =
    closes r events (event.Head id fields last) (record (heard events) { ending = Some Failed }) Failed false s now refl refl refl

pub of_head : (r : Response) (events : List Event) (id : ℕ) (fields : List Field) (last : Bool) → StandsFor r events
    → HeadTold r events (event.Head id fields last) (told_by (block_in r fields last)) (headed_by (block_in r fields last) r)
of_head r events id fields last s =
    by_related r events id fields last (related r.headed (is_some_byte r.rest) fields last) s
    (hears r events (event.Head id fields last) s ∙ ap (λ b. with_block (block_of b false fields last) (heard events)) (sym s.headed))

-- ---- behind the end

-- an event adds to the content, or leaves it
record Grows (h next : Heard) : Type 0 where
  more : List ℕ
  is : next.content ≡ h.content ++ more

block_grows : (b : Block) (h : Heard) → Grows h (with_block b h)
block_grows Skips h = record { more = []; is = sym (append-nil h.content) }
block_grows Begins h = record { more = []; is = sym (append-nil h.content) }
block_grows (Ends status) h = record { more = []; is = sym (append-nil h.content) }
block_grows (Refuses fault) h = record { more = []; is = sym (append-nil h.content) }

data_grows : (bytes : List ℕ) (last : Bool) (h : Heard) (b : Bool) → h.headed ≡ b → Grows h (with_data bytes last h)
data_grows bytes last h true e = record { more = bytes; is = ap (λ b. if b then h.content ++ bytes else h.content) e }
data_grows bytes last h false e = record { more = []; is = ap (λ b. if b then h.content ++ bytes else h.content) e ∙ sym (append-nil h.content) }

event_grows : (e : Event) (h : Heard) → Grows h (with_event e h)
event_grows event.Nothing h = record { more = []; is = sym (append-nil h.content) }
event_grows (event.Head id fields last) h = block_grows (block_of h.headed false fields last) h
event_grows (event.Data id bytes last) h = data_grows bytes last h h.headed refl
event_grows (event.Reset id code) h = record { more = []; is = sym (append-nil h.content) }
event_grows (event.GoAway last code) h = record { more = []; is = sym (append-nil h.content) }

heard_grows : (o : Option Ending) (e : Event) (h : Heard) → Grows h (unless_over o e h)
heard_grows (Some ending) e h = record { more = []; is = sym (append-nil h.content) }
heard_grows None e h = event_grows e h

closed_stays : (limit : ℕ) (events : List Event) (e : Event) (o : Option Ending) → (heard events).ending ≡ o → ((o ≡ None) → ⊥) → items limit (e ∷ events) ≡ items limit events
closed_stays limit events e None is some = absurd (some refl)
closed_stays limit events e (Some ending) is some = ap (λ o. let h : Heard = unless_over o e (heard events) in items_of (framed limit h.content) h.ending) is

faulty_stays : (limit : ℕ) (events : List Event) (e : Event) (o : Option CallFault) → (framed limit (heard events).content).fault ≡ o → ((o ≡ None) → ⊥) → items limit (e ∷ events) ≡ items limit events
faulty_stays limit events e None is some = absurd (some refl)
faulty_stays limit events e (Some fault) is some =
    let g = heard_grows (heard events).ending e (heard events) in
    let next : Heard = heard (e ∷ events) in
    let kept = (added limit (heard events).content g.more).stays fault is in
    ap (λ (b : List ℕ). items_of (framed limit b) next.ending) g.is
    ∙ (λ i. map Message (kept.1 i) ++ last_items (kept.0 i) next.ending (framed limit ((heard events).content ++ g.more)).rest)
    ∙ ap (λ (ms : List Item). map Message (framed limit (heard events).content).messages ++ ms)
    (told_once fault next.ending (framed limit ((heard events).content ++ g.more)).rest ∙ sym (told_once fault (heard events).ending (framed limit (heard events).content).rest))
    ∙ ap (λ o. map Message (framed limit (heard events).content).messages ++ last_items o (heard events).ending (framed limit (heard events).content).rest) (sym is)

pub over_stays : (limit : ℕ) (events : List Event) (e : Event) → IsOver limit events → items limit (e ∷ events) ≡ items limit events
over_stays limit events e (inl some) = closed_stays limit events e (heard events).ending refl some
over_stays limit events e (inr some) = faulty_stays limit events e (framed limit (heard events).content).fault refl some
