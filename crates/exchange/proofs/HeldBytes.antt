-- What an exchange keeps covers the body bytes that weren't given.
use Rattle.std.proofs.Common.{refl, sym, ◌∙◌, ap, arith, subst, inl, inr, append-nil, length-append}
use Rattle.std.proofs.lemmas.List.Concat.{flat_map-cons}
use Rattle.std.proofs.lemmas.List.Sums.{sum_by-append, sum_by-cons}
use Rattle.std.specs.Prelude.{ℕ, ◌≡◌, ◌+◌, ◌-◌, ◌≤◌, Bool, true, false, List, [], ◌∷◌, ◌++◌, length, Option, Some, None, is_some, if◌then◌else◌, sum_by, flat_map, option_to_list}
use Rattle.ext_msgs.specs.declared.ask.Ask.{Ask}
use Rattle.ext_msgs.specs.declared.ask.Ask.TheVariants as ask
use Rattle.ext_msgs.specs.declared.lists.Field.{Field}
use Rattle.ext_msgs.specs.declared.modes.PartModes.{PartModes}
use Rattle.http_model.specs.Bytes.{crlf}
use Rattle.http_model.specs.Wire.{hex}
use Rattle.http_model.specs.declared.types.Direction.{Direction}
use Rattle.http_model.specs.declared.types.Direction.TheVariants.{Request, Response}
use Rattle.http_model.specs.declared.types.Framing.{Framing}
use Rattle.http_model.specs.declared.types.Framing.TheVariants.{NoField, Length, Chunked}
use Rattle.http_model.specs.declared.types.Out.{Out}
use Rattle.http_model.specs.declared.types.Out.TheVariants as part
use Rattle.filter_model.specs.Account.{ExchangeAccount, course}
use Rattle.filter_model.specs.Config.{CourseConfig, FilterConfig}
use Rattle.filter_model.specs.Course.{Course, changed, queue}
use Rattle.filter_model.specs.Given.{data_at, data_in, data_of}
use Rattle.filter_model.specs.Half.{HalfStep, Told, Asked, Gave, MayGive, Past, Progress, Taken, parts, progress, progress_of, half_rules}
use Rattle.filter_model.specs.Half as half
use Rattle.filter_model.specs.HalfRight.{AreSteps, framing_in, has_trailers, part_bytes, written_parts}
use Rattle.filter_model.specs.Held.{field_bytes, held_in, total}
use Rattle.filter_model.specs.Outgoing.{body_bytes, passing_limit}
use Rattle.filter_model.specs.Right.{Call, IsHistory, account}
use Rattle.filter_model.specs.Step.{is_live}
use Rattle.filter_model.proofs.Chunks.{chunk_parts}
use Rattle.filter_model.proofs.HalfWritten.{IsGone, along}
use Rattle.filter_model.proofs.Known.{queue_known}
use Rattle.body_hold.specs.Held.{joined}
use Rattle.half_machine.specs.Asking.{passes}
use Rattle.half_machine.specs.Beside.{ask_size, head_size}
use Rattle.half_machine.proofs.Permit.{queue_is}
use Rattle.h1_message.specs.Stages.{held_at}
use Rattle.h1_message.specs.declared.stage.Stage.{Stage}
use Rattle.h1_message.specs.declared.stage.Stage.TheVariants as stage
use Rattle.h1_outlet.specs.Outlets.{Flowed, all, body_in}
use Rattle.h1_outlet.specs.Parts.{part_size}
use Rattle.h1_outlet.proofs.FieldSizes.{waits_held}
use Rattle.exchange.specs.Flows.{Story}
use Rattle.exchange.specs.Held.{bytes_put, fields_in, fields_put, flow_size, held_by, kept_of, piece_in, ready_size, unread_at, waiting_in}
use Rattle.exchange.specs.Stands.{FlowTies, IsAfter}
use Rattle.exchange.specs.declared.exchange.Exchange.{Exchange}
use Rattle.exchange.specs.declared.flow.Flow.{Flow}
use Rattle.exchange.proofs.GivingBytes.{body_after, count_is, size_of}
use Rattle.exchange.proofs.GivingTo.{counted_live}
use Rattle.exchange.proofs.Wholly.{no_reply}

-- The lists add up

unread_size : (x : Stage) → length (unread_at x) ≡ held_at x
unread_size (stage.Unbegun d to_head) = refl
unread_size (stage.Head h) = refl
unread_size (stage.NoHead e) = refl
unread_size (stage.Body n rest) = refl
unread_size (stage.NoBody e) = refl
unread_size stage.Whole = refl

lent_size : (lent : List (List ℕ)) → total lent ≡ length (joined lent)
lent_size [] = refl
lent_size (p ∷ lent) = sum_by-cons (λ l. length l) p lent ∙ ap (λ n. length p + n) (lent_size lent) ∙ sym (length-append p (joined lent))

put_size : (out : Out) → sum_by field_bytes (fields_put out) + total (bytes_put out) ≡ part_size out
put_size (part.Head fields framing) = omega arith
put_size (part.Data bytes) = omega arith
put_size (part.Trailers fields) = omega arith
put_size part.End = refl
put_size part.Nothing = refl

asked_size : (asks : List Ask) → sum_by field_bytes (flat_map fields_in asks) + total (flat_map piece_in asks) ≡ sum_by ask_size asks
asked_size [] = refl
asked_size (x ∷ asks) =
    let a = ap (sum_by field_bytes) (flat_map-cons fields_in x asks) ∙ sum_by-append field_bytes (fields_in x) (flat_map fields_in asks) in
    let b = ap total (flat_map-cons piece_in x asks) ∙ sum_by-append (λ (l : List ℕ). length l) (piece_in x) (flat_map piece_in asks) in
    let o = one x in
    let k = asked_size asks in
    let c = sum_by-cons ask_size x asks in
    omega (arith, a, b, o, k, c)
  where
    one : (x : Ask) → sum_by field_bytes (fields_in x) + total (piece_in x) ≡ ask_size x
    one (ask.RequestHeaders fields last) = omega arith
    one (ask.ResponseHeaders fields last) = omega arith
    one (ask.RequestBody bytes last) = omega arith
    one (ask.ResponseBody bytes last) = omega arith
    one (ask.RequestTrailers fields) = omega arith
    one (ask.ResponseTrailers fields) = omega arith

both_waiting : (x : Option Ask) → sum_by ask_size (waiting_in Request x) + sum_by ask_size (waiting_in Response x) ≡ ready_size x
both_waiting None = refl
both_waiting (Some (ask.RequestHeaders fields last)) = omega arith
both_waiting (Some (ask.ResponseHeaders fields last)) = omega arith
both_waiting (Some (ask.RequestBody bytes last)) = omega arith
both_waiting (Some (ask.ResponseBody bytes last)) = omega arith
both_waiting (Some (ask.RequestTrailers fields)) = omega arith
both_waiting (Some (ask.ResponseTrailers fields)) = omega arith

first_size : (head : Option (List Field)) → sum_by field_bytes (option_to_list head) ≡ head_size head
first_size None = refl
first_size (Some fields) = omega arith

kept_size : (d : Direction) (x : Option Ask) (f : Flow) → held_in (kept_of d x f) ≡ flow_size f + sum_by ask_size (waiting_in d x)
kept_size d x f =
    let asks : List Ask = f.half.ready ++ waiting_in d x in
    let u = unread_size f.reader.stage in
    let h = first_size f.half.head in
    let t = sum_by-append field_bytes (option_to_list f.half.head) (f.half.trailers ∷ []) in
    let i = sum_by-append field_bytes (option_to_list f.half.head ++ f.half.trailers ∷ []) (flat_map fields_in asks) in
    let j = sum_by-append field_bytes (option_to_list f.half.head ++ f.half.trailers ∷ [] ++ flat_map fields_in asks) (fields_put f.outlet.next) in
    let k = asked_size asks in
    let m = sum_by-append ask_size f.half.ready (waiting_in d x) in
    let l = lent_size f.half.hold.lent in
    let p = put_size f.outlet.next in
    let o = sum_by-cons (λ (l : List ℕ). length l) f.half.hold.out (f.outlet.going.left ∷ f.outlet.reply ∷ bytes_put f.outlet.next) in
    let g = sum_by-cons (λ (l : List ℕ). length l) f.outlet.going.left (f.outlet.reply ∷ bytes_put f.outlet.next) in
    let r = sum_by-cons (λ (l : List ℕ). length l) f.outlet.reply (bytes_put f.outlet.next) in
    omega (arith, u, h, t, i, j, k, m, l, p, o, g, r)

pub all_size : (x : Exchange) → held_by x ≡ flow_size x.request + flow_size x.response + ready_size x.ready
all_size x =
    let a = kept_size Request x.ready x.request in
    let b = kept_size Response x.ready x.response in
    let c = both_waiting x.ready in
    omega (arith, a, b, c)

-- All body bytes that were handed out are among those that are written

one_piece : (f : Framing) (bytes : List ℕ) (n : ℕ) → length (body_bytes f (bytes ∷ [])) ≤ n → length bytes ≤ data_of f n (part.Data bytes)
one_piece NoField bytes n l = let e = ap length (append-nil bytes) in omega (arith, e, l)
one_piece (Length m) bytes n l = let e = ap length (append-nil bytes) in omega (arith, e, l)
one_piece Chunked [] n l = omega arith
one_piece Chunked (x ∷ bytes) n l =
    let line : List ℕ = hex (length (x ∷ bytes)) ++ crlf in
    let e = ap length (chunk_parts (x ∷ bytes) []) in
    let a = length-append (hex (length (x ∷ bytes))) (crlf ++ ((x ∷ bytes) ++ (crlf ++ []))) in
    let b = length-append crlf ((x ∷ bytes) ++ (crlf ++ [])) in
    let c = length-append (x ∷ bytes) (crlf ++ []) in
    let h = length-append (hex (length (x ∷ bytes))) crlf in
    omega (arith, e, a, b, c, h, l)

framed : (c : CourseConfig) (d : Direction) (t : Taken) (outs : List Out) (m : Course) → t.head ≡ true → IsGone d (changed c d m) t outs → (f : Framing) × (framing_in outs ≡ Some f)
framed c d t outs m e (inl (u, w)) = absurd (clash (sym e ∙ u.head))
  where
    clash : true ≡ false → ⊥
    clash e = cc
framed c d t outs m e (inr g) = (g.out.framing, g.framing)

data_there : (d : Direction) (outs : List Out) (bytes : List ℕ) (n : ℕ) (f : Framing) → framing_in outs ≡ Some f → length (written_parts d (part.Data bytes ∷ outs)) ≤ n
    → length bytes ≤ data_at (framing_in outs) (n - length (written_parts d outs)) (part.Data bytes)
data_there d outs bytes n f e l =
    subst (λ o. length bytes ≤ data_at o (n - length (written_parts d outs)) (part.Data bytes)) (sym e)
    (one_piece f bytes (n - length (written_parts d outs)) (by (subst (λ o. length (written_parts d outs ++ part_bytes d o (has_trailers outs) (part.Data bytes)) ≤ n) e l)))
  where
    by : length (written_parts d outs ++ body_bytes f (bytes ∷ [])) ≤ n → length (body_bytes f (bytes ∷ [])) ≤ n - length (written_parts d outs)
    by k = let a = length-append (written_parts d outs) (body_bytes f (bytes ∷ [])) in omega (arith, a, k)

-- of one part
part_there : (c : CourseConfig) (d : Direction) (m : Course) (t : Taken) (outs : List Out) (out : Out) (n : ℕ) → IsGone d (changed c d m) t outs → MayGive passing_limit (changed c d m) t out
    → length (written_parts d (out ∷ outs)) ≤ n → size_of out ≤ data_at (framing_in outs) (n - length (written_parts d outs)) out
unfolding size_of
part_there c d m t outs (part.Head fields framing) n g k l = omega arith
part_there c d m t outs (part.Data bytes) n g k l = let (f, e) = framed c d t outs m k.0 g in data_there d outs bytes n f e l
part_there c d m t outs (part.Trailers fields) n g k l = omega arith
part_there c d m t outs part.End n g k l = omega arith
part_there c d m t outs part.Nothing n g k l = omega arith

data_all : (c : CourseConfig) (d : Direction) (modes : PartModes) (steps : List HalfStep) (n : ℕ) → AreSteps c d modes steps → length (written_parts d (parts steps)) ≤ n
    → (progress_of c d modes steps).taken.body ≤ data_in d (parts steps) n
unfolding half_rules
data_all c d modes [] n y l = omega arith
data_all c d modes (Told call ∷ steps) n y l = data_all c d modes steps n y.0 l
data_all c d modes (Asked ∷ steps) n y l = data_all c d modes steps n y.0 l
data_all c d modes (Gave out ∷ steps) n y l =
    let p : Progress = progress_of c d modes steps in
    let outs : List Out = parts steps in
    let a = length-append (written_parts d outs) (part_bytes d (framing_in outs) (has_trailers outs) out) in
    let i = data_all c d modes steps n y.0 (omega (arith, a, l)) in
    let j = part_there c d p.course p.taken outs out n (along c d modes steps y.0).1 y.1 l in
    let k = body_after out p.taken in
    omega (arith, i, j, k)

-- One direction

queued_most : (b q : Bool) (waiting out hand : ℕ) → (if b then waiting + out + (if q then hand else 0) else 0) ≤ waiting + out + hand
queued_most true true waiting out hand = omega arith
queued_most true false waiting out hand = omega arith
queued_most false q waiting out hand = omega arith

flow_covers : (c : FilterConfig) (h : List Call) (d : Direction) (n : ℕ) (w : Option ℕ) (x : Flow) → IsHistory c h → FlowTies c d (account c h) (account c h) n w x → is_live (account c h).fate ≡ true
    → queue c.course d (course d (account c h)) ≤ flow_size x
flow_covers c h d n w x y t l =
    let a : ExchangeAccount = account c h in
    let s : Story = t.story in
    let f : Flowed = s.flowed in
    let p : Past = s.past in
    let r : f.reply ≡ [] = t.reply ∙ no_reply d w a.fate l in
    let same : queue c.course d (course d a) ≡ queue p.config p.direction (half.course p) =
    sym (queue_known c.course d (course d a)) ∙ ap (queue c.course d) (sym (t.told l)) ∙ ap (λ e. queue c.course e (half.course p)) (sym t.way) ∙ ap (λ e. queue e p.direction (half.course p)) (sym t.config) in
    let is = queue_is p.config p.direction (progress p) x.half t.stands.half.ties in
    let most = queued_most (is_some x.half.gone.framing) (passes x.half) x.half.counts.waiting (length x.half.hold.out) (length x.half.hold.hand) in
    let waiting = t.stands.half.ties.counts.waiting in
    let given : (half.course p).given ≡ body_in f f.given = counted_live c h d n w x y t l ∙ count_is s x t.stands r f.given in
    let long : length (all f) ≡ length f.front + length (written_parts f.direction f.parts) + length f.reply =
    length-append (f.front ++ written_parts f.direction f.parts) f.reply ∙ ap (λ k. k + length f.reply) (length-append f.front (written_parts f.direction f.parts)) in
    let there : (progress p).taken.body ≤ body_in f (length (all f)) =
    subst (λ e. (progress p).taken.body ≤ data_in e f.parts (length (all f) - length f.front)) (sym t.stands.way)
    (subst (λ ps. (progress p).taken.body ≤ data_in p.direction ps (length (all f) - length f.front)) (sym t.stands.parts)
    (data_all p.config p.direction p.modes p.steps (length (all f) - length f.front) t.stands.is_past
    (subst (λ ps. length (written_parts p.direction ps) ≤ length (all f) - length f.front) t.stands.parts
    (subst (λ e. length (written_parts e f.parts) ≤ length (all f) - length f.front) t.stands.way (omega (arith, long)))))) in
    let out = waits_held f x.outlet t.stands.outlet in
    omega (arith, same, is, most, waiting, given, there, out)

pub covers : (c : FilterConfig) (h : List Call) (x : Exchange) → IsAfter c h x → is_live (account c h).fate ≡ true
    → queue c.course Request (account c h).request.course + queue c.course Response (account c h).response.course ≤ held_by x
covers c h x s l =
    let a = flow_covers c h Request _ x.waiting x.request s.right s.ties.request l in
    let b = flow_covers c h Response _ x.waiting x.response s.right s.ties.response l in
    let e = all_size x in
    omega (arith, a, b, e)
