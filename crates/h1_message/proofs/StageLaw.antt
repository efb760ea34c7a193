-- What bytes make of a stage.
use Rattle.std.proofs.Common.{sym, ◌∙◌, ap, subst, refl, arith, append_assoc, append-nil, eqb-true}
use Rattle.std.specs.Prelude.{ℕ, suc, ◌≡◌, ◌<◌, ◌≤◌, Bool, true, false, not, List, [], ◌∷◌, ◌++◌, length, ◌==◌, Option, Some, None}
use Rattle.ext_msgs.specs.declared.lists.Field.{Field}
use Rattle.http_model.specs.Bytes.{is_empty}
use Rattle.http_model.specs.Reading.{Reading, Fault, Stays}
use Rattle.http_model.specs.Reading as reading
use Rattle.http_model.specs.Heads.{Head, message_head, head_so_far, request_message, response_message, response_message_in, behind_interims}
use Rattle.http_model.specs.Bodies.{Body, body, part, faulty, whole_body, behind}
use Rattle.http_model.specs.Reads.{Original, unread, with_body}
use Rattle.http_model.specs.declared.types.Direction.{Direction}
use Rattle.http_model.specs.declared.types.Direction.TheVariants.{Request, Response}
use Rattle.http_model.specs.declared.types.Length.{Length}
use Rattle.http_model.specs.declared.types.Length.TheVariants.{NoBody, Known, Chunked, Close}
use Rattle.http_model.proofs.HeadsStable.{message_head-stays}
use Rattle.h1_read.specs.HeadReading.{HeadState, IsFedOn}
use Rattle.h1_read.specs.Messages.{head_of}
use Rattle.h1_read.specs.declared.fault.H1Fault.{H1Fault}
use Rattle.h1_read.specs.Remaining.{Rest, at_start, remaining}
use Rattle.h1_read.specs.Remaining as rest
use Rattle.h1_read.proofs.BodyMoves.{behind_both}
use Rattle.h1_read.proofs.StateLaw.{heads_go_on, left_goes_on}
use Rattle.h1_message.specs.Feeding.{IsNext, HeadWasFed}
use Rattle.h1_message.specs.Source.{Source, more, ended, original}
use Rattle.h1_message.specs.Stages.{IsUnbegun, IsNewHead, InHead, InBody, HasNoBody, HasAll, IsAtStage, reading_of, begun_at, Stands, stage_behind, trailers_of, nothing, told, IsGiven}
use Rattle.h1_message.specs.declared.body.Next.{Next}
use Rattle.h1_message.specs.declared.body.Next.TheVariants.{On, Bad, Whole}
use Rattle.h1_message.specs.declared.head.HeadFed.{HeadFed}
use Rattle.h1_message.specs.declared.head.HeadFed.TheVariants as fed
use Rattle.h1_message.specs.declared.stage.Stage.{Stage}
use Rattle.h1_message.specs.declared.stage.Stage.TheVariants as stage
use Rattle.h1_message.specs.declared.step.Given.{Given}
use Rattle.h1_message.proofs.GivenLaw.{by_reading, by_head, gives_unread, gives_head, gives_body}

given_by : (before before' now now' : Original) (g : Given) → before ≡ before' → now ≡ now' → IsGiven before' now' g → IsGiven before now g
given_by before before' now now' g p q i = subst (λ b. IsGiven b now g) (sym p) (subst (λ n. IsGiven before' n g) (sym q) i)

-- The first byte

pub still_begun : (bytes more : List ℕ) → not (is_empty bytes) ≡ true → not (is_empty (bytes ++ more)) ≡ true
still_begun [] more e = absurd cc
still_begun (b ∷ bytes) more e = refl

pub some_begun : (brought bytes : List ℕ) → brought ≡ [] → 0 < length bytes → not (is_empty (brought ++ bytes)) ≡ true
some_begun brought [] e h = absurd (none h)
  where
    none : 0 < 0 → ⊥
    none h = omega (arith, h)
some_begun brought (b ∷ bytes) e h = ap (λ l. not (is_empty (l ++ b ∷ bytes))) e

no_head : (d : Direction) (to_head : Bool) → message_head d to_head [] ≡ reading.Partial
unfolding request_message response_message response_message_in
no_head Request to_head = refl
no_head Response to_head = refl

pub none_so_far : (d : Direction) → [] ≡ head_so_far d []
unfolding behind_interims
none_so_far Request = refl
none_so_far Response = refl

pub unbegun_reads : (s : Source) → s.brought ≡ [] → reading_of s ≡ reading.Partial
unbegun_reads s e = ap (message_head s.direction s.to_head) e ∙ no_head s.direction s.to_head

pub begins : (s : Source) (d : Direction) (to_head : Bool) (h : HeadState) → IsUnbegun s d to_head → IsNewHead d to_head h → InHead s h
begins s d to_head h u n = record {
  direction = u.direction ∙ sym n.direction;
  same = λ bytes. u.same bytes ∙ n.same bytes;
  so_far = n.none ∙ none_so_far s.direction ∙ ap (head_so_far s.direction) (sym u.none);
  reads = unbegun_reads s u.none;
}

-- Bytes of a head

head_reads : (s : Source) (h : HeadState) (bytes : List ℕ) → InHead s h
    → reading_of (more bytes s) ≡ message_head h.direction h.to_head (h.so_far ++ bytes)
head_reads s h bytes i =
    heads_go_on s.direction s.to_head s.brought bytes
    ∙ ap (λ l. message_head s.direction s.to_head (l ++ bytes)) (sym i.so_far)
    ∙ i.same (h.so_far ++ bytes)

head_on : (s : Source) (h h' : HeadState) (bytes : List ℕ) → InHead s h → IsFedOn h bytes h' → InHead (more bytes s) h'
head_on s h h' bytes i f = record {
  direction = i.direction ∙ ap (λ (x : HeadState). x.direction) (sym f.state);
  same = λ b. i.same b ∙ ap (λ (x : HeadState). message_head x.direction x.to_head b) (sym f.state);
  so_far = ap (λ (x : HeadState). x.so_far) f.state
      ∙ ap (λ d. head_so_far d (h.so_far ++ bytes)) (sym i.direction)
      ∙ ap (λ l. head_so_far s.direction (l ++ bytes)) i.so_far
      ∙ sym (left_goes_on s.direction s.brought bytes);
  reads = head_reads s h bytes i ∙ f.head;
}

-- Bytes of a body

same_rest : (r : Rest) (ended : Bool) (bytes : List ℕ)
    → ((remaining r ended bytes).content ≡ (remaining r false bytes).content) × ((remaining r ended bytes).trailers ≡ (remaining r false bytes).trailers)
same_rest (rest.Known n) ended bytes = (refl, refl)
same_rest (rest.Line kept) ended bytes = (refl, refl)
same_rest (rest.Chunk n) ended bytes = (refl, refl)
same_rest rest.Lf ended bytes = (refl, refl)
same_rest (rest.Trailers kept) ended bytes = (refl, refl)
same_rest rest.Close ended bytes = (refl, refl)
same_rest rest.Over ended bytes = (refl, refl)
same_rest (rest.Failed f) ended bytes = (refl, refl)

-- a body that goes on has nothing but what came of it
on_came : (b : Body) (came : List ℕ) (r : Rest) (ended : Bool) → b ≡ behind came (remaining r ended []) → remaining r false [] ≡ part []
    → (b.content ≡ came) × (b.trailers ≡ [])
on_came b came r ended e u =
    let same = same_rest r ended [] in (
      ap (λ (x : Body). x.content) e ∙ ap (λ l. came ++ l) (same.0 ∙ ap (λ (x : Body). x.content) u) ∙ append-nil came,
      ap (λ (x : Body). x.trailers) e ∙ same.1 ∙ ap (λ (x : Body). x.trailers) u,
    )

-- a body of which this came, and what it makes of the bytes to come
abbrev IsOn : Length → List ℕ → List ℕ → Rest → Type 0
IsOn n before came r = (ended : Bool) (more : List ℕ) → body n ended (before ++ more) ≡ behind came (remaining r ended more)

on_start : (n : Length) → IsOn n [] [] (at_start n)
on_start NoBody ended more = refl
on_start (Known n) ended more = refl
on_start Chunked ended more = refl
on_start Close ended more = refl

-- what came of it behind more bytes
came_next : (n : Length) (before bytes came content : List ℕ) (r : Rest) (next : Next) (ended : Bool) → IsOn n before came r → IsNext r bytes content next
    → ((body n ended (before ++ bytes)).content ≡ came ++ content) × ((body n ended (before ++ bytes)).trailers ≡ trailers_of next)
came_next n before bytes came content r (On after) ended on i =
    on_came (body n ended (before ++ bytes)) (came ++ content) after ended
    (on ended bytes ∙ ap (λ l. behind came (remaining r ended l)) (sym (append-nil bytes)) ∙ ap (behind came) (i.on ended [])
    ∙ behind_both came content (remaining after ended []))
    i.unfinished
came_next n before bytes came content r (Bad e) ended on i =
    let now = on ended bytes ∙ ap (λ l. behind came (remaining r ended l)) (sym (append-nil bytes)) ∙ ap (behind came) (i.stays ended []) in
    (ap (λ (x : Body). x.content) now, ap (λ (x : Body). x.trailers) now)
came_next n before bytes came content r (Whole trailers) ended on i =
    let now = on ended bytes ∙ ap (λ l. behind came (remaining r ended l)) (sym (append-nil bytes)) ∙ ap (behind came) (i.whole ended []) in
    (ap (λ (x : Body). x.content) now, ap (λ (x : Body). x.trailers) now)

at_next : (s : Source) (m : Reading Head) (h : Head) (before bytes came content : List ℕ) (r : Rest) (next : Next) → IsOn h.length before came r
    → IsNext r bytes content next → m ≡ reading.Whole h (before ++ bytes) → IsAtStage s m (stage_behind h.length next)
at_next s m h before bytes came content r (On after) on i e = record {
  head = h;
  behind = before ++ bytes;
  came = came ++ content;
  reads = e;
  framed = refl;
  on = λ ended more.
      ap (body h.length ended) (append_assoc before bytes more) ∙ on ended (bytes ++ more) ∙ ap (behind came) (i.on ended more)
      ∙ behind_both came content (remaining after ended more);
  unfinished = i.unfinished;
}
at_next s m h before bytes came content r (Bad f) on i e = record {
  head = h;
  behind = before ++ bytes;
  came = came ++ content;
  fault = i.fault;
  reads = e;
  named = i.named;
  stays = λ ended more. ap (body h.length ended) (append_assoc before bytes more) ∙ on ended (bytes ++ more) ∙ ap (behind came) (i.stays ended more);
}
at_next s m h before bytes came content r (Whole trailers) on i e = record {
  head = h;
  behind = before ++ bytes;
  came = came ++ content;
  trailers = trailers;
  left = i.left;
  reads = e;
  stays = λ ended more. ap (body h.length ended) (append_assoc before bytes more) ∙ on ended (bytes ++ more) ∙ ap (behind came) (i.whole ended more);
}

begun_next : (n : Length) (next : Next) → begun_at (stage_behind n next) ≡ true
begun_next n (On after) = refl
begun_next n (Bad e) = refl
begun_next n (Whole trailers) = refl

-- What a stage makes of bytes

abbrev pub Steps : Source → List ℕ → Stage → Given → Type 0
Steps s bytes x given = Stands (more bytes s) x × IsGiven (original s) (original (more bytes s)) given

partial_gives : (s s' : Source) → reading_of s ≡ reading.Partial → reading_of s' ≡ reading.Partial → IsGiven (original s) (original s') nothing
partial_gives s s' e e' =
    given_by (original s) (unread _) (original s') (unread _) nothing (by_reading s reading.Partial e) (by_reading s' reading.Partial e') (gives_unread _ _)

pub none_there : (bytes : List ℕ) → true ≡ (length bytes == 0) → bytes ≡ []
none_there [] e = refl
none_there (b ∷ bytes) e = absurd (some (length bytes) (eqb-true (length (b ∷ bytes)) 0 (sym e)))
  where
    some : (n : ℕ) → suc n ≡ 0 → ⊥
    some n h = omega (arith, h)

pub no_bytes : (s : Source) (d : Direction) (to_head : Bool) (bytes : List ℕ) → bytes ≡ [] → Stands s (stage.Unbegun d to_head) → Steps s bytes (stage.Unbegun d to_head) nothing
no_bytes s d to_head bytes e w =
    let none : s.brought ++ bytes ≡ [] = ap (λ l. s.brought ++ l) e ∙ append-nil s.brought ∙ w.is.none in (
      record {
        is = record { direction = w.is.direction; same = w.is.same; none = none };
        begun = ap (λ l. not (is_empty l)) (sym none);
      },
      partial_gives s (more bytes s) (unbegun_reads s w.is.none) (unbegun_reads (more bytes s) none),
    )

abbrev pub TellsStage : Source → HeadState → Option Stage → Type 0
TellsStage s h None = IsAtStage s (reading_of s) (stage.Head h)
TellsStage s h (Some x) = IsAtStage s (reading_of s) x × (begun_at x ≡ true)

pub head_tells : (s : Source) (h h' : HeadState) (bytes : List ℕ) (f : HeadFed) → InHead s h → HeadWasFed h bytes h' f
    → TellsStage (more bytes s) h' (told f).0 × IsGiven (original s) (original (more bytes s)) (told f).1
head_tells s h h' bytes fed.On i f =
    let on = head_on s h h' bytes i f in (on, partial_gives s (more bytes s) i.reads on.reads)
head_tells s h h' bytes (fed.Bad e) i f =
    let bad = head_reads s h bytes i ∙ f.reads in (
      (record { fault = f.fault; named = f.named; reads = bad }, refl),
      given_by (original s) (unread _) (original (more bytes s)) (unread _) nothing
          (by_reading s reading.Partial i.reads) (by_reading (more bytes s) (reading.Bad f.fault) bad) (gives_unread _ _),
    )
head_tells s h h' bytes (fed.Got m b) i f =
    let whole = head_reads s h bytes i ∙ f.reads in
    let came = came_next m.length [] f.behind [] b.content (at_start m.length) b.next s.ended (on_start m.length) f.body.next in (
      (at_next (more bytes s) (reading_of (more bytes s)) (head_of m) [] f.behind [] b.content (at_start m.length) b.next (on_start m.length) f.body.next whole, begun_next m.length b.next),
      given_by (original s) (unread _) (original (more bytes s)) (with_body s.ended (head_of m) (body m.length s.ended f.behind)) (told (fed.Got m b)).1
          (by_reading s reading.Partial i.reads) (by_head (more bytes s) (head_of m) f.behind whole)
          (gives_head _ s.ended m (body m.length s.ended f.behind) b.content (trailers_of b.next) came.0 (sym came.1)),
    )

-- what stands behind a head goes on
whole_on : (s : Source) (bytes : List ℕ) (h : Head) (before : List ℕ) → reading_of s ≡ reading.Whole h before → reading_of (more bytes s) ≡ reading.Whole h (before ++ bytes)
whole_on s bytes h before e = subst (λ r. Stays r bytes (reading_of (more bytes s))) e (message_head-stays s.direction s.to_head s.brought bytes)

headed_gives : (s s' : Source) (h : Head) (before before' : List ℕ) (content : List ℕ) (trailers : List Field) → reading_of s ≡ reading.Whole h before → reading_of s' ≡ reading.Whole h before'
    → (body h.length s'.ended before').content ≡ (body h.length s.ended before).content ++ content
    → ((body h.length s.ended before).whole ≡ false → trailers ≡ (body h.length s'.ended before').trailers)
    → IsGiven (original s) (original s') (record { head = None; body = content; trailers = trailers })
headed_gives s s' h before before' content trailers e e' c t =
    given_by (original s) (with_body s.ended h (body h.length s.ended before)) (original s') (with_body s'.ended h (body h.length s'.ended before'))
    (record { head = None; body = content; trailers = trailers }) (by_head s h before e) (by_head s' h before' e')
    (gives_body s.ended s'.ended h (body h.length s.ended before) (body h.length s'.ended before') content trailers c t)

pub body_was : (s : Source) (r : Reading Head) (n : Length) (rest : Rest) (ended : Bool) (b : InBody r n rest)
    → ((body b.head.length ended b.behind).content ≡ b.came) × ((body b.head.length ended b.behind).trailers ≡ [])
body_was s r n rest ended b =
    on_came (body b.head.length ended b.behind) b.came rest ended
    (ap (λ k. body k ended b.behind) b.framed ∙ ap (body n ended) (sym (append-nil b.behind)) ∙ b.on ended []) b.unfinished

pub body_steps : (s : Source) (bytes content : List ℕ) (n : Length) (r : Rest) (next : Next) → Stands s (stage.Body n r) → IsNext r bytes content next
    → Steps s bytes (stage_behind n next) (record { head = None; body = content; trailers = trailers_of next })
body_steps s bytes content n r next w i =
    let b = w.is in
    let on : IsOn b.head.length b.behind b.came r = subst (λ k. IsOn k b.behind b.came r) (sym b.framed) b.on in
    let whole = whole_on s bytes b.head b.behind b.reads in
    let now = came_next b.head.length b.behind bytes b.came content r next s.ended on i in
    let was = body_was s (reading_of s) n r s.ended b in (
      record {
        is = subst (λ k. IsAtStage (more bytes s) (reading_of (more bytes s)) (stage_behind k next)) b.framed
            (at_next (more bytes s) (reading_of (more bytes s)) b.head b.behind bytes b.came content r next on i whole);
        begun = begun_next n next ∙ sym (still_begun s.brought bytes (sym w.begun));
      },
      headed_gives s (more bytes s) b.head b.behind (b.behind ++ bytes) content (trailers_of next) b.reads whole (now.0 ∙ ap (λ l. l ++ content) (sym was.0)) (λ e. sym now.1),
    )

-- Nothing is read on

bad_gives : (s s' : Source) (f : Fault) → reading_of s ≡ reading.Bad f → reading_of s' ≡ reading.Bad f → IsGiven (original s) (original s') nothing
bad_gives s s' f e e' =
    given_by (original s) (unread _) (original s') (unread _) nothing (by_reading s (reading.Bad f) e) (by_reading s' (reading.Bad f) e') (gives_unread _ _)

pub no_head_steps : (s : Source) (bytes : List ℕ) (e : H1Fault) → Stands s (stage.NoHead e) → Steps s bytes (stage.NoHead e) nothing
no_head_steps s bytes e w =
    let b = w.is in
    let bad : reading_of (more bytes s) ≡ reading.Bad b.fault =
    subst (λ r. Stays r bytes (reading_of (more bytes s))) b.reads (message_head-stays s.direction s.to_head s.brought bytes) in (
      record {
        is = record { fault = b.fault; named = b.named; reads = bad };
        begun = sym (still_begun s.brought bytes (sym w.begun));
      },
      bad_gives s (more bytes s) b.fault b.reads bad,
    )

-- the same body, which is whole or never will be
same_gives : (s s' : Source) (h : Head) (before before' : List ℕ) (b : Body) → reading_of s ≡ reading.Whole h before → reading_of s' ≡ reading.Whole h before'
    → body h.length s.ended before ≡ b → body h.length s'.ended before' ≡ b → (b.whole ≡ false → b.trailers ≡ []) → IsGiven (original s) (original s') nothing
same_gives s s' h before before' b e e' f f' t =
    headed_gives s s' h before before' [] [] e e'
    (ap (λ (x : Body). x.content) f' ∙ sym (append-nil b.content) ∙ ap (λ (x : Body). x.content ++ []) (sym f))
    (λ k. sym (ap (λ (x : Body). x.trailers) f' ∙ t (sym (ap (λ (x : Body). x.whole) f) ∙ k)))

pub no_body_now : (r : Reading Head) (e : H1Fault) (b : HasNoBody r e) (ended : Bool) → body b.head.length ended b.behind ≡ faulty b.came b.fault
no_body_now r e b ended = ap (body b.head.length ended) (sym (append-nil b.behind)) ∙ b.stays ended []

pub no_body_steps : (s : Source) (bytes : List ℕ) (e : H1Fault) → Stands s (stage.NoBody e) → Steps s bytes (stage.NoBody e) nothing
no_body_steps s bytes e w =
    let b = w.is in
    let whole = whole_on s bytes b.head b.behind b.reads in (
      record {
        is = record {
          head = b.head;
          behind = b.behind ++ bytes;
          came = b.came;
          fault = b.fault;
          reads = whole;
          named = b.named;
          stays = λ ended more. ap (body b.head.length ended) (append_assoc b.behind bytes more) ∙ b.stays ended (bytes ++ more);
        };
        begun = sym (still_begun s.brought bytes (sym w.begun));
      },
      same_gives s (more bytes s) b.head b.behind (b.behind ++ bytes) (faulty b.came b.fault) b.reads whole (no_body_now (reading_of s) e b s.ended) (b.stays s.ended bytes) (λ k. refl),
    )

pub whole_now : (r : Reading Head) (b : HasAll r) (ended : Bool) → body b.head.length ended b.behind ≡ whole_body b.came b.trailers (b.left ++ [])
whole_now r b ended = ap (body b.head.length ended) (sym (append-nil b.behind)) ∙ b.stays ended []

pub whole_steps : (s : Source) (bytes : List ℕ) → Stands s stage.Whole → Steps s bytes stage.Whole nothing
whole_steps s bytes w =
    let b = w.is in
    let whole = whole_on s bytes b.head b.behind b.reads in
    let was = whole_now (reading_of s) b s.ended in
    let now = b.stays s.ended bytes in (
      record {
        is = record {
          head = b.head;
          behind = b.behind ++ bytes;
          came = b.came;
          trailers = b.trailers;
          left = b.left ++ bytes;
          reads = whole;
          stays = λ ended more.
              ap (body b.head.length ended) (append_assoc b.behind bytes more) ∙ b.stays ended (bytes ++ more)
              ∙ ap (whole_body b.came b.trailers) (sym (append_assoc b.left bytes more));
        };
        begun = sym (still_begun s.brought bytes (sym w.begun));
      },
      headed_gives s (more bytes s) b.head b.behind (b.behind ++ bytes) [] [] b.reads whole
          (ap (λ (x : Body). x.content) now ∙ sym (append-nil b.came) ∙ ap (λ (x : Body). x.content ++ []) (sym was)) (λ k. absurd (never (sym (ap (λ (x : Body). x.whole) was) ∙ k))),
    )
  where
    never : true ≡ false → ⊥
    never e = cc

-- The answers of a head's bytes as the code has them

pub told_some : (s : Source) (h h' : HeadState) (bytes : List ℕ) (f : HeadFed) (r : Option Stage × Given) (x : Stage) → InHead s h → HeadWasFed h bytes h' f
    → r ≡ told f → r.0 ≡ Some x → not (is_empty (s.brought ++ bytes)) ≡ true → Steps s bytes x r.1
told_some s h h' bytes f r x i k e o begun =
    let t = head_tells s h h' bytes f i k in
    let at = subst (TellsStage (more bytes s) h') (sym (ap (λ (p : Option Stage × Given). p.0) e) ∙ o) t.0 in (
      record { is = at.0; begun = at.1 ∙ sym begun },
      subst (IsGiven (original s) (original (more bytes s))) (sym (ap (λ (p : Option Stage × Given). p.1) e)) t.1,
    )

pub told_none : (s : Source) (h h' : HeadState) (bytes : List ℕ) (f : HeadFed) (r : Option Stage × Given) → InHead s h → HeadWasFed h bytes h' f
    → r ≡ told f → r.0 ≡ None → not (is_empty (s.brought ++ bytes)) ≡ true → Steps s bytes (stage.Head h') r.1
told_none s h h' bytes f r i k e o begun =
    let t = head_tells s h h' bytes f i k in (
      record {
        is = subst (TellsStage (more bytes s) h') (sym (ap (λ (p : Option Stage × Given). p.0) e) ∙ o) t.0;
        begun = sym begun;
      },
      subst (IsGiven (original s) (original (more bytes s))) (sym (ap (λ (p : Option Stage × Given). p.1) e)) t.1,
    )

pub told_short : (h h' : HeadState) (bytes : List ℕ) (f : HeadFed) → HeadWasFed h bytes h' f → length (told f).1.body ≤ length bytes
told_short h h' bytes fed.On k = omega arith
told_short h h' bytes (fed.Bad e) k = omega arith
told_short h h' bytes (fed.Got m b) k = omega (arith, k.inside, k.body.short)

-- An end

pub end_stands : (s : Source) (x : Stage) → Stands s x → Stands (ended s) x
end_stands s (stage.Unbegun d to_head) w = record { is = record { direction = w.is.direction; same = w.is.same; none = w.is.none }; begun = w.begun }
end_stands s (stage.Head h) w = record {
  is = record { direction = w.is.direction; same = w.is.same; so_far = w.is.so_far; reads = w.is.reads };
  begun = w.begun;
}
end_stands s (stage.NoHead e) w = record { is = w.is; begun = w.begun }
end_stands s (stage.Body n r) w = record { is = w.is; begun = w.begun }
end_stands s (stage.NoBody e) w = record { is = w.is; begun = w.begun }
end_stands s stage.Whole w = record { is = w.is; begun = w.begun }

pub end_gives : (s : Source) (x : Stage) → Stands s x → IsGiven (original s) (original (ended s)) nothing
end_gives s (stage.Unbegun d to_head) w = partial_gives s (ended s) (unbegun_reads s w.is.none) (unbegun_reads s w.is.none)
end_gives s (stage.Head h) w = partial_gives s (ended s) w.is.reads w.is.reads
end_gives s (stage.NoHead e) w = bad_gives s (ended s) w.is.fault w.is.reads w.is.reads
end_gives s (stage.Body n r) w =
    let b = w.is in
    let was = body_was s (reading_of s) n r s.ended b in
    let now = body_was s (reading_of s) n r true b in
    headed_gives s (ended s) b.head b.behind b.behind [] [] b.reads b.reads (now.0 ∙ sym (append-nil b.came) ∙ ap (λ l. l ++ []) (sym was.0)) (λ k. sym now.1)
end_gives s (stage.NoBody e) w =
    let b = w.is in
    same_gives s (ended s) b.head b.behind b.behind (faulty b.came b.fault) b.reads b.reads (no_body_now (reading_of s) e b s.ended) (no_body_now (reading_of s) e b true) (λ k. refl)
end_gives s stage.Whole w =
    let b = w.is in
    same_gives s (ended s) b.head b.behind b.behind (whole_body b.came b.trailers (b.left ++ [])) b.reads b.reads (whole_now (reading_of s) b s.ended) (whole_now (reading_of s) b true) (λ k. absurd cc)
