-- Along a history each call that tells a half what its side brings may be told, and there is room for it.
use Rattle.std.proofs.Common.{ap, arith}
use Rattle.std.specs.Prelude.{ℕ, ◌≡◌, ◌-◌, ◌≤◌, min, Bool, true, false, not, ◌||◌, List, [], ◌∷◌, ◌++◌, length, None, if◌then◌else◌, is_some}
use Rattle.http_model.specs.Heads.{head_limit, head_so_far}
use Rattle.http_model.specs.Reads.{Original, reads}
use Rattle.http_model.specs.declared.types.Direction.{Direction}
use Rattle.http_model.specs.declared.types.Direction.TheVariants.{Request, Response}
use Rattle.filter_model.specs.Config.{FilterConfig}
use Rattle.filter_model.specs.Course.{body_room}
use Rattle.filter_model.specs.Account.{ExchangeAccount, brought, course, gathered, is_to_head}
use Rattle.filter_model.specs.Right.{Call, Stepped, IsHistory, account}
use Rattle.filter_model.specs.Step.{head_room, is_awaited, is_live, room}
use Rattle.filter_model.specs.Told.{IsNoCut, IsOfSides, IsShort, ReadWell, known, news}
use Rattle.filter_model.specs.ToldMore.{AllFit}
use Rattle.filter_model.specs.View.{ViewEntry, Bytes, End, Lost, Tick}
use Rattle.filter_model.specs.declared.calls.Side.TheVariants.{Client, Upstream}
use Rattle.filter_model.proofs.AtRest.{steady}
use Rattle.filter_model.proofs.BodyWithin.{read_gains}
use Rattle.filter_model.proofs.GivenRight.{fits}
use Rattle.filter_model.proofs.NewsFit.{news_fit}
use Rattle.filter_model.proofs.ReadAlong.{Fits, Read}
use Rattle.filter_model.proofs.ToldEntry.{before_well, comes_on}

grows_at_most : (d : Direction) (to_head : Bool) (bytes more : List ℕ) (e e' : Bool) (o : Original) → o ≡ reads d to_head bytes e
    → length (reads d to_head (bytes ++ more) e').body - length o.body ≤ length more
grows_at_most d to_head bytes more e e' o r =
    let g = read_gains d to_head bytes more e e' in
    let s : length o.body ≡ length (reads d to_head bytes e).body = ap (λ x. length x.body) r in
    omega (arith, g, s)

-- behind a head there is no more room than for the body
within_room : (none read : Bool) (n m : ℕ) → read ≡ true → (if none then 0 else if read then n else m) ≤ n
within_room true read n m e = omega arith
within_room false true n m e = omega arith
within_room false false n m e = absurd cc

pub grown_within : (c : FilterConfig) (e : ViewEntry) (a : ExchangeAccount) (d : Direction) → Read a → Fits c a e → IsOfSides e → is_some (course d a).original.head ≡ true
    → length (course d (gathered e a)).original.body - length (course d a).original.body ≤ body_room c.course d (course d a)
unfolding gathered brought room
grown_within c (Bytes Client bytes) a Request r f s i =
    let g = grows_at_most Request (is_to_head a) a.request.brought bytes a.request.ended (a.request.ended || false) a.request.course.original r.request in
    let k = within_room (not (is_live a.fate) || a.request.course.original.whole || not (is_awaited Client a)) (is_some a.request.course.original.head) (body_room c.course Request a.request.course)
    (head_room c.course.piece Request a.request.brought) i in
    omega (arith, f, g, k)
grown_within c (Bytes Upstream bytes) a Response r f s i =
    let g = grows_at_most Response (is_to_head a) a.response.brought bytes a.response.ended (a.response.ended || false) a.response.course.original r.response in
    let k = within_room (not (is_live a.fate) || a.response.course.original.whole || not (is_awaited Upstream a)) (is_some a.response.course.original.head) (body_room c.course Response a.response.course)
    (head_room c.course.piece Response a.response.brought) i in
    omega (arith, f, g, k)
grown_within c (End Client) a Request r f s i =
    let g = grows_at_most Request (is_to_head a) a.request.brought [] a.request.ended (a.request.ended || true) a.request.course.original r.request in
    omega (arith, g)
grown_within c (End Upstream) a Response r f s i =
    let g = grows_at_most Response (is_to_head a) a.response.brought [] a.response.ended (a.response.ended || true) a.response.course.original r.response in
    omega (arith, g)
grown_within c (Bytes Upstream bytes) a Request r f s i = omega arith
grown_within c (Bytes Client bytes) a Response r f s i = omega arith
grown_within c (End Upstream) a Request r f s i = omega arith
grown_within c (End Client) a Response r f s i = omega arith
grown_within c (Lost Client how) a Request r f s i = omega arith
grown_within c (Lost Client how) a Response r f s i = omega arith
grown_within c (Lost Upstream how) a Request r f s i = omega arith
grown_within c (Lost Upstream how) a Response r f s i = omega arith
grown_within c (Tick n) a Request r f s i = omega arith
grown_within c (Tick n) a Response r f s i = omega arith
grown_within c _ a d r f s i = absurd s

-- with its head a side brings at most a piece

without_body : (o : Original) → ReadWell o → o.head ≡ None → length o.body ≡ 0
without_body o r n = let k = r.unread n in ap (λ x. length x.body) k.1

before_head : (none read : Bool) (n piece m : ℕ) → read ≡ false → (if none then 0 else if read then n else min piece m) ≤ piece
before_head true read n piece m e = omega arith
before_head false true n piece m e = absurd cc
before_head false false n piece m e = omega arith

short_in : (c : FilterConfig) (e : ViewEntry) (a : ExchangeAccount) (d : Direction) → Read a → Fits c a e → IsOfSides e → (course d a).original.head ≡ None
    → length (course d (gathered e a)).original.body ≤ c.course.piece
unfolding gathered brought room
short_in c (Bytes Client bytes) a Request r f s i =
    let g = grows_at_most Request (is_to_head a) a.request.brought bytes a.request.ended (a.request.ended || false) a.request.course.original r.request in
    let o = without_body a.request.course.original (before_well Request a r) i in
    let k = before_head (not (is_live a.fate) || a.request.course.original.whole || not (is_awaited Client a)) (is_some a.request.course.original.head) (body_room c.course Request a.request.course)
    c.course.piece (head_limit - length (head_so_far Request a.request.brought)) (ap is_some i) in
    omega (arith, f, g, k, o)
short_in c (Bytes Upstream bytes) a Response r f s i =
    let g = grows_at_most Response (is_to_head a) a.response.brought bytes a.response.ended (a.response.ended || false) a.response.course.original r.response in
    let o = without_body a.response.course.original (before_well Response a r) i in
    let k = before_head (not (is_live a.fate) || a.response.course.original.whole || not (is_awaited Upstream a)) (is_some a.response.course.original.head) (body_room c.course Response a.response.course)
    c.course.piece (head_limit - length (head_so_far Response a.response.brought)) (ap is_some i) in
    omega (arith, f, g, k, o)
short_in c (End Client) a Request r f s i =
    let g = grows_at_most Request (is_to_head a) a.request.brought [] a.request.ended (a.request.ended || true) a.request.course.original r.request in
    let o = without_body a.request.course.original (before_well Request a r) i in
    omega (arith, g, o)
short_in c (End Upstream) a Response r f s i =
    let g = grows_at_most Response (is_to_head a) a.response.brought [] a.response.ended (a.response.ended || true) a.response.course.original r.response in
    let o = without_body a.response.course.original (before_well Response a r) i in
    omega (arith, g, o)
short_in c (Bytes Upstream bytes) a Request r f s i = let o = without_body a.request.course.original (before_well Request a r) i in omega (arith, o)
short_in c (Bytes Client bytes) a Response r f s i = let o = without_body a.response.course.original (before_well Response a r) i in omega (arith, o)
short_in c (End Upstream) a Request r f s i = let o = without_body a.request.course.original (before_well Request a r) i in omega (arith, o)
short_in c (End Client) a Response r f s i = let o = without_body a.response.course.original (before_well Response a r) i in omega (arith, o)
short_in c (Lost Client how) a Request r f s i = let o = without_body a.request.course.original (before_well Request a r) i in omega (arith, o)
short_in c (Lost Client how) a Response r f s i = let o = without_body a.response.course.original (before_well Response a r) i in omega (arith, o)
short_in c (Lost Upstream how) a Request r f s i = let o = without_body a.request.course.original (before_well Request a r) i in omega (arith, o)
short_in c (Lost Upstream how) a Response r f s i = let o = without_body a.response.course.original (before_well Response a r) i in omega (arith, o)
short_in c (Tick n) a Request r f s i = let o = without_body a.request.course.original (before_well Request a r) i in omega (arith, o)
short_in c (Tick n) a Response r f s i = let o = without_body a.response.course.original (before_well Response a r) i in omega (arith, o)
short_in c _ a d r f s i = absurd s

pub is_short : (c : FilterConfig) (h : List Call) (e : ViewEntry) → IsHistory c (Stepped e ∷ h) → IsOfSides e → (d : Direction) → IsShort c (course d (account c h)) (course d (gathered e (account c h)))
is_short c h e y s d i = short_in c e (account c h) d (steady c h y.0).along.read (fits c h e y.1) s i

pub entry_fits : (c : FilterConfig) (h : List Call) (e : ViewEntry) → IsHistory c (Stepped e ∷ h) → IsOfSides e → IsNoCut c e (account c h) → c.course.piece ≤ c.course.mark → (d : Direction)
    → AllFit c.course d (news c.course d (known (course d (account c h))) (course d (gathered e (account c h))).original) (known (course d (account c h)))
entry_fits c h e y s n z d =
    let a : ExchangeAccount = account c h in
    news_fit c.course d (course d a) (course d (gathered e a)).original (comes_on c h e y s n z d (is_short c h e y s d))
    (grown_within c e a d (steady c h y.0).along.read (fits c h e y.1) s)
