-- A cut that ends an exchange leaves the asks that were made, and what was given whole; and after an end neither changes.
use Rattle.std.proofs.Common.{inl, inr, sym, ◌∙◌, ap, subst, append-nil, refl, arith, leb-true, length-append}
use Rattle.std.specs.Prelude.{ℕ, ◌≡◌, ◌⊎◌, ◌<◌, ◌≤◌, Bool, true, false, not, ◌&&◌, ◌||◌, List, [], ◌∷◌, ◌++◌, length, codes, filter, Option, Some, None, if◌then◌else◌, is_some, is_none, option_map, nat_le, nat_lt}
use Rattle.std.specs.List.{list_any}
use Rattle.ext_msgs.specs.declared.lists.Field.{Field}
use Rattle.http_model.specs.Bodies.{Body, Chunk, Piece, Last, Begun, Wrong, body, chunk, chunked_in, chunks_from, trailers_behind, trailers_read}
use Rattle.http_model.specs.Bytes.{crlf, is_empty}
use Rattle.http_model.specs.Heads.{Head, head_limit, field_limit, message_head}
use Rattle.http_model.specs.Lines.{section}
use Rattle.http_model.specs.Reader.{Extends, Longer}
use Rattle.http_model.specs.Reading.{BadChunk, Fault, LongHead, Reading, Whole, Partial, Bad, limited, status_of}
use Rattle.http_model.specs.Reads.{Original, cut_short, read_by, reads}
use Rattle.http_model.specs.Wire.{field_line, field_lines, first_lines, framing_field, head_bytes, is_written_as_is}
use Rattle.http_model.specs.declared.types.Direction.{Direction}
use Rattle.http_model.specs.declared.types.Direction.TheVariants.{Request, Response}
use Rattle.http_model.specs.declared.types.Length.{Length}
use Rattle.http_model.specs.declared.types.Length.TheVariants.{NoBody, Known, Chunked, Close}
use Rattle.http_model.proofs.ReadsOn.{reads_is_reader}
use Rattle.filter_model.specs.Config.{CourseConfig, FilterConfig}
use Rattle.filter_model.specs.Course.{AskedPart, Changed, Course, Outgoing, body_done_at, changed, changed_at, course_rules, head_may_go, is_bare, is_body, is_buffered, is_over, is_settled, kept, mode, replaces, answer_to, is_headers, next_body, out, outgoing, replacement, replacement_at}
use Rattle.filter_model.specs.Account.{Aborted, ExchangeAccount, course, flow, front, gathered, brought, is_given, is_given_at, is_released, is_to_head, is_finished, one_sent, settled}
use Rattle.filter_model.specs.Answers.{answered}
use Rattle.filter_model.specs.Cut.{Cut, Over, Peer, fault_cut, over_cut, peer_cut, processor_cut}
use Rattle.filter_model.specs.Right.{Call, Stepped, IsHistory, May, account}
use Rattle.filter_model.specs.Sound.{Sound}
use Rattle.filter_model.specs.Step.{after, after_end, by_reply, cut, cut_at, effect, fate_under, is_departure, is_live, lets_pass, on, reply_to, still_counts, step, step_if, under_cut, under_departure, with_ending}
use Rattle.filter_model.specs.View.{ViewEntry, Bytes, End, Lost, Answered, TooLong, Closed, NoStream, Tick, Starved, Sent, Given}
use Rattle.filter_model.specs.declared.calls.Side.TheVariants.{Client, Upstream}
use Rattle.filter_model.proofs.AtRest.{Steady, steady}
use Rattle.filter_model.proofs.CourseGrows.{if_buffered}
use Rattle.filter_model.proofs.Firm.{Firm}
use Rattle.filter_model.proofs.GivenRight.{FrontGrown, StepGrown, fits, no_given, step-given, step_grown}
use Rattle.filter_model.proofs.Kept.{gathered-fate, gathered-made, no_cut_kept}
use Rattle.filter_model.proofs.NeverOver.{Within, gathered_is, over_asked, over_is, read_on, within_along}
use Rattle.filter_model.proofs.ReadAlong.{Read, reads_on}
use Rattle.filter_model.proofs.StepGrows.{Held, ReadsOn, gathered_goes}
use Rattle.filter_model.proofs.ToldEntry.{changed_some, extends_in, few_given, head_stays, sound_in}
use Rattle.filter_model.proofs.ToldRelease.{course_is, passed}

clash : true ≡ false → ⊥
clash e = cc

-- A message that is whole has no fault

trailers_ok : (r : Reading (List Field)) → (trailers_read r).whole ≡ true → (trailers_read r).fault ≡ None
trailers_ok (Whole fields rest) e = refl
trailers_ok Partial e = refl
trailers_ok (Bad f) e = absurd cc

chunk_ok : (k : Chunk) (next : List ℕ → Body) → ((rest : List ℕ) → (next rest).whole ≡ true → (next rest).fault ≡ None) → (chunks_from k next).whole ≡ true → (chunks_from k next).fault ≡ None
unfolding trailers_behind
chunk_ok (Piece content rest) next f e = f rest e
chunk_ok (Last rest) next f e = trailers_ok (limited head_limit LongHead (section BadChunk field_limit) rest) e
chunk_ok (Begun content) next f e = refl
chunk_ok (Wrong content) next f e = absurd cc

chunked_ok : (n : ℕ) (bytes : List ℕ) → (chunked_in n bytes).whole ≡ true → (chunked_in n bytes).fault ≡ None
unfolding chunked_in
chunked_ok ℕ.zero bytes e = refl
chunked_ok (ℕ.suc n) bytes e = chunk_ok (chunk bytes) (chunked_in n) (chunked_ok n) e

body_ok : (n : Length) (ended : Bool) (bytes : List ℕ) → (body n ended bytes).whole ≡ true → (body n ended bytes).fault ≡ None
body_ok NoBody ended bytes e = refl
body_ok (Known n) ended bytes e = refl
body_ok Chunked ended bytes e = chunked_ok (ℕ.suc (length bytes)) bytes e
body_ok Close ended bytes e = refl

uncut : (ended whole : Bool) (f : Option Fault) → whole ≡ true → f ≡ None → cut_short (ended && not whole) f ≡ None
uncut ended false f e g = absurd cc
uncut true true f e g = g
uncut false true f e g = g

read_ok : (d : Direction) (bytes : List ℕ) (ended : Bool) (r : Reading Head) → (read_by d bytes ended r).whole ≡ true → (read_by d bytes ended r).fault ≡ None
read_ok d bytes ended (Whole h rest) e =
    uncut ended (body h.length ended rest).whole (body h.length ended rest).fault e (body_ok h.length ended rest e)
read_ok d bytes ended Partial e = absurd cc
read_ok d bytes ended (Bad f) e = absurd cc

pub faulty_part : (d : Direction) (to_head : Bool) (bytes : List ℕ) (ended : Bool) → ((reads d to_head bytes ended).fault ≡ None → ⊥) → (reads d to_head bytes ended).whole ≡ false
unfolding reads
faulty_part d to_head bytes ended n = by (reads d to_head bytes ended).whole refl
  where
    by : (b : Bool) → (reads d to_head bytes ended).whole ≡ b → (reads d to_head bytes ended).whole ≡ false
    by false e = e
    by true e = absurd (n (read_ok d bytes ended (message_head d to_head bytes) e))

-- Why an entry of a side is a cut

-- it brings nothing to this direction, or takes the body past its limit, or is faulty
abbrev pub Reason : FilterConfig → Direction → Original → Course → Type 0
Reason c d before w = (w.original ≡ before) ⊎ ((is_over c.course w ≡ true) ⊎ (w.original.whole ≡ false))

why : (f r : Bool) (over peer : Option Cut) (k : Cut) → cut_at f r None over peer ≡ Some k → (is_some over ≡ true) ⊎ (is_some peer ≡ true)
why true r over peer k e = absurd cc
why false true over None k e = absurd cc
why false true over (Some q) k e = inr refl
why false false (Some q) peer k e = inl refl
why false false None (Some q) k e = inr refl
why false false None None k e = absurd cc

first_over : (x y : Bool) (p q : Cut) → is_some (if x then Some p else if y then Some q else None) ≡ true → y ≡ false → x ≡ true
first_over true y p q e f = refl
first_over false true p q e f = absurd cc
first_over false false p q e f = absurd cc

second_over : (x y : Bool) (p q : Cut) → is_some (if x then Some p else if y then Some q else None) ≡ true → x ≡ false → y ≡ true
second_over true y p q e f = absurd cc
second_over false true p q e f = refl
second_over false false p q e f = absurd cc

pub some_fault : (f : Fault → Cut) (o : Option Fault) → is_some (option_map f o) ≡ true → o ≡ None → ⊥
some_fault f None e n = clash (sym e)
some_fault f (Some x) e n = cc

reason : (c : FilterConfig) (d : Direction) (e : ViewEntry) (a : ExchangeAccount) (k : Cut) → Within c a → cut c e (gathered e a) ≡ Some k
    → Reason c d (course d a).original (course d (gathered e a))
unfolding cut gathered brought processor_cut over_cut peer_cut answered
reason c Request (Bytes Client bytes) a k w e = by (why (is_finished c g) (is_released g) (over_cut c g) (fault_cut g Request) k e)
  where
    g : ExchangeAccount
    g = gathered (Bytes Client bytes) a

    by : (is_some (over_cut c g) ≡ true) ⊎ (is_some (fault_cut g Request) ≡ true) → Reason c Request a.request.course.original g.request.course
    by (inl o) = inr (inl (first_over (is_over c.course g.request.course) (is_over c.course g.response.course) (Over Request) (Over Response) o w.response))
    by (inr o) = inr (inr (faulty_part Request (is_to_head a) (a.request.brought ++ bytes) (a.request.ended || false) (some_fault (λ f. Peer (status_of f)) g.request.course.original.fault o)))
reason c Request (End Client) a k w e = by (why (is_finished c g) (is_released g) (over_cut c g) (fault_cut g Request) k e)
  where
    g : ExchangeAccount
    g = gathered (End Client) a

    by : (is_some (over_cut c g) ≡ true) ⊎ (is_some (fault_cut g Request) ≡ true) → Reason c Request a.request.course.original g.request.course
    by (inl o) = inr (inl (first_over (is_over c.course g.request.course) (is_over c.course g.response.course) (Over Request) (Over Response) o w.response))
    by (inr o) = inr (inr (faulty_part Request (is_to_head a) (a.request.brought ++ []) (a.request.ended || true) (some_fault (λ f. Peer (status_of f)) g.request.course.original.fault o)))
reason c Response (Bytes Upstream bytes) a k w e = by (why (is_finished c g) (is_released g) (over_cut c g) (fault_cut g Response) k e)
  where
    g : ExchangeAccount
    g = gathered (Bytes Upstream bytes) a

    by : (is_some (over_cut c g) ≡ true) ⊎ (is_some (fault_cut g Response) ≡ true) → Reason c Response a.response.course.original g.response.course
    by (inl o) = inr (inl (second_over (is_over c.course g.request.course) (is_over c.course g.response.course) (Over Request) (Over Response) o w.request))
    by (inr o) = inr (inr (faulty_part Response (is_to_head a) (a.response.brought ++ bytes) (a.response.ended || false) (some_fault (λ f. Peer 502) g.response.course.original.fault o)))
reason c Response (End Upstream) a k w e = by (why (is_finished c g) (is_released g) (over_cut c g) (fault_cut g Response) k e)
  where
    g : ExchangeAccount
    g = gathered (End Upstream) a

    by : (is_some (over_cut c g) ≡ true) ⊎ (is_some (fault_cut g Response) ≡ true) → Reason c Response a.response.course.original g.response.course
    by (inl o) = inr (inl (second_over (is_over c.course g.request.course) (is_over c.course g.response.course) (Over Request) (Over Response) o w.request))
    by (inr o) = inr (inr (faulty_part Response (is_to_head a) (a.response.brought ++ []) (a.response.ended || true) (some_fault (λ f. Peer 502) g.response.course.original.fault o)))
reason c Request (Bytes Upstream bytes) a k w e = inl refl
reason c Request (End Upstream) a k w e = inl refl
reason c Response (Bytes Client bytes) a k w e = inl refl
reason c Response (End Client) a k w e = inl refl
reason c Request (Lost Client how) a k w e = inl refl
reason c Request (Lost Upstream how) a k w e = inl refl
reason c Response (Lost Client how) a k w e = inl refl
reason c Response (Lost Upstream how) a k w e = inl refl
reason c Request (Given Client bytes) a k w e = inl refl
reason c Request (Given Upstream bytes) a k w e = inl refl
reason c Response (Given Client bytes) a k w e = inl refl
reason c Response (Given Upstream bytes) a k w e = inl refl
reason c d (Answered x) a k w e = inl refl
reason c d TooLong a k w e = inl refl
reason c d Starved a k w e = inl refl
reason c Request (Closed b) a k w e = inl refl
reason c Response (Closed b) a k w e = inl refl
reason c Request NoStream a k w e = inl refl
reason c Response NoStream a k w e = inl refl
reason c Request (Tick n) a k w e = inl refl
reason c Response (Tick n) a k w e = inl refl
reason c Request Sent a k w e = inl refl
reason c Response Sent a k w e = inl refl

-- What has become of the message

not_ended : (d : Direction) (o : Option Outgoing) (m : Changed) (f g : List ℕ) → m.ended ≡ false → is_given_at d o m f g ≡ false
not_ended d None m f g e = refl
not_ended d (Some h) m f g e = by m.ended (nat_le (length (f ++ head_bytes d h.fields h.framing)) (length g)) _ e
  where
    by : (x y z : Bool) → x ≡ false → ((x && y) && z) ≡ false
    by true y z e = absurd cc
    by false y z e = refl

part_unended : (whole released out : Bool) (b : Option AskedPart) (rest : Bool) → whole ≡ false → (body_done_at whole released out b && rest) ≡ false
part_unended true released out b rest e = absurd cc
part_unended false released out b rest e = refl

kept_unended : (c : CourseConfig) (w : Course) (h : Outgoing) → w.original.whole ≡ false → (kept c w h).ended ≡ false
kept_unended c w h e = part_unended w.original.whole w.released (list_any is_body (out w)) (next_body c w) _ e

-- a body past its limit hasn't ended, where it wasn't whole before
over_unended : (c : CourseConfig) (d : Direction) (w : Course) (o : Original) (n : ℕ) → Sound c w → Firm w → Sound c (read_on w o n) → w.original.whole ≡ false → is_over c (read_on w o n) ≡ true
    → (changed c d (read_on w o n)).ended ≡ false
over_unended c d w o n s f t u e = by (changed c d (read_on w o n)).ended refl
  where
    firm : Firm (read_on w o n)
    firm = record { first = f.first; stops = f.stops }

    by : (b : Bool) → (changed c d (read_on w o n)).ended ≡ b → (changed c d (read_on w o n)).ended ≡ false
    by false i = i
    by true i =
        let g : list_any is_body w.asks ≡ true = over_asked c d (read_on w o n) t firm e i in
        let m = over_is (is_settled (read_on w o n)) (is_buffered (mode w)) (nat_lt c.buffer_limit (length o.body)) e in
        absurd (clash (sym (s.covered (if_buffered (w.released || replaces (answer_to is_headers w)) w.modes.body m.0) g).0 ∙ u))

-- by the replacement
by_replacement : (c : CourseConfig) (d : Direction) (w v : Course) (h : Outgoing) (r r' : Option (List ℕ)) (f g : List ℕ) → r' ≡ r → w.original.whole ≡ false
    → (r' ≡ None → (changed_at c v (Some h) r').ended ≡ false) → is_given_at d (Some h) (changed_at c v (Some h) r') f g ≡ is_given_at d (Some h) (changed_at c w (Some h) r) f g
by_replacement c d w v h (Some b) r' f g e u i =
    ap (λ x. is_given_at d (Some h) (changed_at c v (Some h) x) f g) e
by_replacement c d w v h None r' f g e u i =
    not_ended d (Some h) (changed_at c v (Some h) r') f g (i e) ∙ sym (not_ended d (Some h) (kept c w h) f g (kept_unended c w h u))

longer_given : (c : CourseConfig) (d : Direction) (w : Course) (o : Original) (n : ℕ) (h : Outgoing) (f g : List ℕ) → Sound c w → Firm w → Sound c (read_on w o n) → w.head ≡ Some h → Longer w.original o
    → (is_over c (read_on w o n) ≡ true) ⊎ (o.whole ≡ false)
    → is_given_at d (Some h) (changed c d (read_on w o n)) f g ≡ is_given_at d (Some h) (changed c d w) f g
unfolding changed
longer_given c d w o n h f g s t u k l r =
    ap (λ x. is_given_at d (Some h) (changed_at c v x (replacement d v)) f g) k
    ∙ by_replacement c d w v h (replacement d w) (replacement d v) f g (ap (λ z. replacement_at (is_bare d z) (answer_to is_headers w)) l.length) l.unfinished (by r)
    ∙ ap (λ x. is_given_at d (Some h) (changed_at c w x (replacement d w)) f g) (sym k)
  where
    v : Course
    v = read_on w o n

    by : (is_over c v ≡ true) ⊎ (o.whole ≡ false) → replacement d v ≡ None → (changed_at c v (Some h) (replacement d v)).ended ≡ false
    by (inl e) z = ap (λ x. (changed_at c v x (replacement d v)).ended) (sym k) ∙ over_unended c d w o n s t u l.unfinished e
    by (inr e) z = ap (λ x. (changed_at c v (Some h) x).ended) z ∙ kept_unended c v h e

pub read_given : (c : FilterConfig) (d : Direction) (w : Course) (o : Original) (n : ℕ) (h : Outgoing) (f g : List ℕ) → Sound c.course w → Firm w → Sound c.course (read_on w o n) → w.head ≡ Some h → Extends w.original o
    → Reason c d w.original (read_on w o n) → is_given_at d (Some h) (changed c.course d (read_on w o n)) f g ≡ is_given_at d (Some h) (changed c.course d w) f g
unfolding course_rules
read_given c d w o n h f g s t u k x (inl e) = ap (λ z. is_given_at d (Some h) (changed c.course d (read_on w z n)) f g) e
read_given c d w o n h f g s t u k (inl e) (inr r) = ap (λ z. is_given_at d (Some h) (changed c.course d (read_on w z n)) f g) e
read_given c d w o n h f g s t u k (inr (inl m)) (inr r) = absurd (none (sym (s.head_read m).0 ∙ k))
  where
    none : None ≡ Some h → ⊥
    none e = cc
read_given c d w o n h f g s t u k (inr (inr l)) (inr r) = longer_given c.course d w o n h f g s t u k l r

-- The head

-- with a head nothing was given whole that isn't longer than what goes before it
few_is_none : (d : Direction) (o : Option Outgoing) (m : Changed) (f g : List ℕ) → length g ≤ length f → is_given_at d o m f g ≡ false
unfolding head_bytes
few_is_none d None m f g h = refl
few_is_none d (Some o) m f g h = by m.ended (nat_le (length (f ++ head_bytes d o.fields o.framing)) (length g)) _ short
  where
    some : 2 ≤ length (head_bytes d o.fields o.framing)
    some =
        let e = length-append (first_lines d o.fields ++ field_lines (filter is_written_as_is o.fields) ++ framing_field o.framing ++ field_line (codes "connection") (codes "close")) crlf in
        omega (arith, e)

    short : nat_le (length (f ++ head_bytes d o.fields o.framing)) (length g) ≡ false
    short =
        let e = length-append f (head_bytes d o.fields o.framing) in
        by_size (nat_le (length (f ++ head_bytes d o.fields o.framing)) (length g)) refl (omega (arith, e, some, h))
      where
        by_size : (b : Bool) → nat_le (length (f ++ head_bytes d o.fields o.framing)) (length g) ≡ b → length g < length (f ++ head_bytes d o.fields o.framing)
            → nat_le (length (f ++ head_bytes d o.fields o.framing)) (length g) ≡ false
        by_size false e k = e
        by_size true e k = let l = leb-true (length (f ++ head_bytes d o.fields o.framing)) (length g) e in absurd (omega (arith, l, k))

    by : (x y z : Bool) → y ≡ false → ((x && y) && z) ≡ false
    by x true z e = absurd cc
    by true false z e = refl
    by false false z e = refl

or_false : (x : Bool) → (x || false) ≡ x
or_false true = refl
or_false false = refl

-- a cut that ends the exchange leaves a head that was chosen, and the message
passed_same : (c : FilterConfig) (d : Direction) (b : Bool) (f g : List ℕ) (v : Course) (h : Outgoing) → b ≡ false → v.head ≡ Some h
    → ((passed c d b f g v).head ≡ Some h) × (changed c.course d (passed c d b f g v) ≡ changed c.course d v)
unfolding course_rules
passed_same c d b f g v h e k = (
  head_is,
  ap (λ o. changed_at c.course (passed c d b f g v) o (replacement d v)) head_is ∙ by (replacement d v) ∙ ap (λ o. changed_at c.course v o (replacement d v)) (sym k),
)
  where
    by : (r : Option (List ℕ)) → changed_at c.course (passed c d b f g v) (Some h) r ≡ changed_at c.course v (Some h) r
    by (Some x) = refl
    by None = ap (λ r. kept c.course (record v { released = r }) h) (ap (λ x. v.released || x) e ∙ or_false v.released)

    first : (if is_none v.head && head_may_go v then option_map (outgoing c.course d v) v.original.head else v.head) ≡ Some h
    first = head_stays h v.head _ (head_may_go v) k

    head_is : (passed c d b f g v).head ≡ Some h
    head_is = head_stays h (if is_none v.head && head_may_go v then option_map (outgoing c.course d v) v.original.head else v.head) _ _ first

-- What ends an exchange

record EndsBy (c : FilterConfig) (e : ViewEntry) (a : ExchangeAccount) (k : Cut) : Type 0 where
  live : is_live a.fate ≡ true
  stays : is_departure e (gathered e a) ≡ false
  is : cut c e (gathered e a) ≡ Some k
  ends : lets_pass c k ≡ false

cut_step : (c : FilterConfig) (e : ViewEntry) (a : ExchangeAccount) (k : Cut) → EndsBy c e a k → step c e a ≡ with_ending c (settled c (effect c k (settled c (gathered e a))))
unfolding step on under_cut
cut_step c e a k n =
    let g : ExchangeAccount = gathered e a in
    ap (step_if c e a) n.live ∙ ap (λ b. with_ending c (under_departure c e g b)) n.stays ∙ ap (λ x. with_ending c (under_cut c e g x)) n.is

left_step : (c : FilterConfig) (e : ViewEntry) (a : ExchangeAccount) → is_live a.fate ≡ true → is_departure e (gathered e a) ≡ true → (step c e a).made ≡ (gathered e a).made
unfolding step on with_ending
left_step c e a l d = ap (λ b. (step_if c e a b).made) l ∙ ap (λ b. (under_departure c e (gathered e a) b).made) d

abbrev Ending : FilterConfig → ViewEntry → ExchangeAccount → Type 0
Ending c e a = (is_departure e (gathered e a) ≡ true) ⊎ ((k : Cut) × EndsBy c e a k)

pass_fate : (c : FilterConfig) (k : Cut) (x : ExchangeAccount) → lets_pass c k ≡ true → fate_under c k x ≡ x.fate
pass_fate c k x e = ap (λ b. if b then x.fate else if is_some x.response.course.head then Aborted else by_reply (reply_to k (is_to_head x))) e

ending : (c : FilterConfig) (e : ViewEntry) (a : ExchangeAccount) → is_live a.fate ≡ true → is_live (step c e a).fate ≡ false → Ending c e a
unfolding step on under_cut settled effect with_ending
ending c e a l n = by (is_departure e g) (cut c e g) refl refl
  where
    g : ExchangeAccount
    g = gathered e a

    lives : is_live g.fate ≡ true
    lives = ap is_live (gathered-fate e a) ∙ l

    fate_is : (b : Bool) (k : Option Cut) → is_departure e g ≡ b → cut c e g ≡ k → b ≡ false → (step c e a).fate ≡ (under_cut c e g k).fate
    fate_is b k i j f =
        ap (λ x. (step_if c e a x).fate) l ∙ ap (λ x. (under_departure c e g x).fate) (i ∙ f) ∙ ap (λ x. (under_cut c e g x).fate) j

    by_pass : (k : Cut) (b : Bool) → is_departure e g ≡ false → cut c e g ≡ Some k → lets_pass c k ≡ b → Ending c e a
    by_pass k false i j p = inr (k, record { live = l; stays = i; is = j; ends = p })
    by_pass k true i j p =
        let f : (under_cut c e g (Some k)).fate ≡ g.fate = pass_fate c k (settled c g) p in
        absurd (clash (sym lives ∙ ap is_live (sym f) ∙ ap is_live (sym (fate_is false (Some k) i j refl)) ∙ n))

    by : (b : Bool) (k : Option Cut) → is_departure e g ≡ b → cut c e g ≡ k → Ending c e a
    by true k i j = inl i
    by false (Some k) i j = by_pass k (lets_pass c k) i j refl
    by false None i j =
        absurd (clash (sym lives ∙ ap is_live (sym (no_cut_kept c e g).fate) ∙ ap is_live (sym (fate_is false None i j refl)) ∙ n))

-- The client leaves before its first byte

empty_is : (l : List ℕ) → is_empty (l ++ []) ≡ true → l ≡ []
empty_is [] e = refl
empty_is (x ∷ l) e = absurd cc

left_request : (a : ExchangeAccount) → Read a → is_empty (a.request.brought ++ []) ≡ true → a.request.course.original.head ≡ None
left_request a r i =
    let none : a.request.brought ≡ [] = empty_is a.request.brought i in
    ap (λ o. o.head) r.request ∙ ap (λ l. (reads Request (is_to_head a) l a.request.ended).head) none ∙ reads_is_reader.early Request (is_to_head a) a.request.ended

left_in : (c : FilterConfig) (a : ExchangeAccount) (d : Direction) → Held c a → a.request.course.original.head ≡ None → (course d a).head ≡ None
left_in c a Request h n = (h.request.head_read n).0
left_in c a Response h n = (h.response.head_read (h.later (h.request.head_read n).0)).0

left_unread : (c : FilterConfig) (e : ViewEntry) (a : ExchangeAccount) → Read a → Held c a → is_departure e (gathered e a) ≡ true → (d : Direction) → (course d a).head ≡ None
unfolding gathered brought
left_unread c (End Client) a r h i d = left_in c a d h (left_request a r i)
left_unread c (End Upstream) a r h i d = absurd cc
left_unread c _ a r h i d = absurd cc

-- Asks that were made

pub ends_made : (c : FilterConfig) (e : ViewEntry) (a : ExchangeAccount) → is_live a.fate ≡ true → is_live (step c e a).fate ≡ false → (step c e a).made ≡ a.made
unfolding with_ending settled effect
ends_made c e a l n = by (ending c e a l n)
  where
    by : Ending c e a → (step c e a).made ≡ a.made
    by (inl i) = left_step c e a l i ∙ gathered-made e a
    by (inr (k, x)) = ap (λ z. z.made) (cut_step c e a k x) ∙ gathered-made e a

-- What was given whole

pub ends_given : (c : FilterConfig) (h : List Call) (e : ViewEntry) → IsHistory c (Stepped e ∷ h) → is_live (account c h).fate ≡ true → is_live (account c (Stepped e ∷ h)).fate ≡ false
    → (d : Direction) → is_given c (account c (Stepped e ∷ h)) d ≡ is_given c (account c h) d
unfolding is_given after
ends_given c h e y l n d = by w.head refl
  where
    a : ExchangeAccount
    a = account c h

    a' : ExchangeAccount
    a' = step c e a

    w : Course
    w = course d a

    v : Course
    v = course d (gathered e a)

    s : Steady c a
    s = steady c h y.0

    grown : StepGrown c a a'
    grown = step_grown c e a s.along (fits c h e y.1)

    given_same : (flow d a').given ≡ (flow d a).given
    given_same = step-given c e d a ∙ ap (λ x. (flow d a).given ++ x) (no_given c e h y.1 d) ∙ append-nil (flow d a).given

    -- the front goes on, or nothing was given
    few : w.head ≡ None → length (flow d a').given ≤ length (front d a')
    few m = of d given_same (few_given c h y.0 l d m)
      where
        of : (d : Direction) → (flow d a').given ≡ (flow d a).given → length (flow d a).given ≤ length (front d a) → length (flow d a').given ≤ length (front d a')
        of Request i p = let j = ap length i in omega (arith, j, p)
        of Response i p = with_front grown.front
          where
            with_front : FrontGrown c a a' → length (flow Response a').given ≤ length (front Response a')
            with_front (inl f) = let j = ap length i in let k = ap length f in omega (arith, j, k, p)
            with_front (inr (z, f)) = let j = ap length i in let k : length (front Response a) ≡ 0 = ap length f in omega (arith, j, k, p)

    front_same : (o : Outgoing) → w.head ≡ Some o → front d a' ≡ front d a
    front_same o m = of d m
      where
        of : (d : Direction) → (course d a).head ≡ Some o → front d a' ≡ front d a
        of Request m = refl
        of Response m = with_front grown.front
          where
            with_front : FrontGrown c a a' → front Response a' ≡ front Response a
            with_front (inl f) = f
            with_front (inr (z, f)) = absurd (changed_some c.course Response (course Response a) o m z)

    x : ReadsOn e a
    x = reads_on c e a s.along.read s.along.held (fits c h e y.1)

    sound : Sound c.course v
    sound = sound_in d c (gathered e a) (gathered_goes c e a s.along.held x).held

    firm : Firm w
    firm = of d
      where
        of : (d : Direction) → Firm (course d a)
        of Request = s.firms.request
        of Response = s.firms.response

    cut_same : (o : Outgoing) → w.head ≡ Some o → (k : Cut) → EndsBy c e a k
        → is_given_at d (course d a').head (changed c.course d (course d a')) (front d a') (flow d a').given ≡ is_given_at d w.head (changed c.course d w) (front d a) (flow d a).given
    cut_same o m k z =
        let g : ExchangeAccount = gathered e a in
        let i : v ≡ read_on w v.original v.sent = gathered_is d e a in
        let p = passed_same c d (lets_pass c k) (front d g) (flow d g).given v o z.ends (ap (λ q. q.head) i ∙ m) in
        let j : course d a' ≡ passed c d (lets_pass c k) (front d g) (flow d g).given v = ap (course d) (cut_step c e a k z) ∙ course_is c k d g in
        ap (λ q. is_given_at d q.head (changed c.course d q) (front d a') (flow d a').given) j
        ∙ ap (λ q. is_given_at d q (changed c.course d (passed c d (lets_pass c k) (front d g) (flow d g).given v)) (front d a') (flow d a').given) p.0
        ∙ ap (λ q. is_given_at d (Some o) q (front d a') (flow d a').given) p.1
        ∙ ap (λ q. is_given_at d (Some o) (changed c.course d v) q (flow d a').given) (front_same o m)
        ∙ ap (is_given_at d (Some o) (changed c.course d v) (front d a)) given_same
        ∙ ap (λ q. is_given_at d (Some o) (changed c.course d q) (front d a) (flow d a).given) i
        ∙ read_given c d w v.original v.sent o (front d a) (flow d a).given (sound_in d c a s.along.held) firm (subst (Sound c.course) i sound) m (extends_in d e a x)
        (subst (Reason c d w.original) i (reason c d e a k (within_along c h y.0 l) z.is))
        ∙ ap (λ q. is_given_at d q (changed c.course d w) (front d a) (flow d a).given) (sym m)

    some : (o : Outgoing) → w.head ≡ Some o → Ending c e a
        → is_given_at d (course d a').head (changed c.course d (course d a')) (front d a') (flow d a').given ≡ is_given_at d w.head (changed c.course d w) (front d a) (flow d a).given
    some o m (inl i) = absurd (none (sym (left_unread c e a s.along.read s.along.held i d) ∙ m))
      where
        none : None ≡ Some o → ⊥
        none e = cc
    some o m (inr (k, z)) = cut_same o m k z

    by : (o : Option Outgoing) → w.head ≡ o
        → is_given_at d (course d a').head (changed c.course d (course d a')) (front d a') (flow d a').given ≡ is_given_at d w.head (changed c.course d w) (front d a) (flow d a).given
    by None m =
        few_is_none d (course d a').head (changed c.course d (course d a')) (front d a') (flow d a').given (few m)
        ∙ sym (ap (λ q. is_given_at d q (changed c.course d w) (front d a) (flow d a).given) m)
    by (Some o) m = some o m (ending c e a l n)

-- After an end

sent_given : (c : FilterConfig) (d : Direction) (a : ExchangeAccount) → is_given c (one_sent a) d ≡ is_given c a d
unfolding is_given course_rules
sent_given c Request a = refl
sent_given c Response a = refl

ended_step : (c : FilterConfig) (e : ViewEntry) (a : ExchangeAccount) → is_live a.fate ≡ false → step c e a ≡ after_end e a (still_counts e)
unfolding step
ended_step c e a n = ap (step_if c e a) n

pub ended_same : (c : FilterConfig) (e : ViewEntry) (a : ExchangeAccount) → is_live a.fate ≡ false → still_counts e ≡ false → step c e a ≡ a
ended_same c e a n i = ended_step c e a n ∙ ap (after_end e a) i

end_given : (c : FilterConfig) (e : ViewEntry) (h : List Call) (a : ExchangeAccount) (d : Direction) → May c (Stepped e) h → is_given c (after_end e a (still_counts e)) d ≡ is_given c a d
unfolding gathered
end_given c (Given s bytes) h a d m = absurd m
end_given c Sent h a d m = sent_given c d a
end_given c (Bytes s bytes) h a d m = refl
end_given c (End s) h a d m = refl
end_given c (Lost s how) h a d m = refl
end_given c (Answered x) h a d m = refl
end_given c TooLong h a d m = refl
end_given c (Closed b) h a d m = refl
end_given c NoStream h a d m = refl
end_given c (Tick n) h a d m = refl
end_given c Starved h a d m = refl

pub ended_given : (c : FilterConfig) (h : List Call) (e : ViewEntry) → IsHistory c (Stepped e ∷ h) → is_live (account c h).fate ≡ false → (d : Direction)
    → is_given c (account c (Stepped e ∷ h)) d ≡ is_given c (account c h) d
unfolding after
ended_given c h e y n d = ap (λ z. is_given c z d) (ended_step c e (account c h) n) ∙ end_given c e h (account c h) d y.1

end_asks : (e : ViewEntry) (a : ExchangeAccount) (d : Direction) → ((course d (after_end e a (still_counts e))).asks ≡ (course d a).asks) × ((after_end e a (still_counts e)).made ≡ a.made)
unfolding gathered
end_asks Sent a Request = (refl, refl)
end_asks Sent a Response = (refl, refl)
end_asks (Given Client bytes) a Request = (refl, refl)
end_asks (Given Client bytes) a Response = (refl, refl)
end_asks (Given Upstream bytes) a Request = (refl, refl)
end_asks (Given Upstream bytes) a Response = (refl, refl)
end_asks (Bytes s bytes) a d = (refl, refl)
end_asks (End s) a d = (refl, refl)
end_asks (Lost s how) a d = (refl, refl)
end_asks (Answered x) a d = (refl, refl)
end_asks TooLong a d = (refl, refl)
end_asks (Closed b) a d = (refl, refl)
end_asks NoStream a d = (refl, refl)
end_asks (Tick n) a d = (refl, refl)
end_asks Starved a d = (refl, refl)

pub ended_asks : (c : FilterConfig) (e : ViewEntry) (a : ExchangeAccount) → is_live a.fate ≡ false → (d : Direction) → ((course d (step c e a)).asks ≡ (course d a).asks) × ((step c e a).made ≡ a.made)
ended_asks c e a n d =
    let i = ended_step c e a n in
    let k = end_asks e a d in
    (ap (λ z. (course d z).asks) i ∙ k.0, ap (λ z. z.made) i ∙ k.1)
