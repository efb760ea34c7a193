-- What is known of the asks of a body stays true.
use Rattle.std.proofs.Common.{inl, inr, refl, sym, ◌∙◌, ap}
use Rattle.std.specs.Prelude.{ℕ, ◌≡◌, ◌⊎◌, ◌≤◌, Bool, true, false, not, ◌&&◌, ◌||◌, List, ◌∷◌, ◌++◌, Some, None, [], length, zip, find, filter_map, Option, is_some, is_none, option_map, if◌then◌else◌}
use Rattle.std.specs.List.{list_any}
use Rattle.ext_msgs.specs.declared.lists.Field.{Field}
use Rattle.ext_msgs.specs.declared.answer.Common.{Common}
use Rattle.ext_msgs.specs.declared.modes.BodyMode.{BodyMode}
use Rattle.ext_msgs.specs.declared.modes.BodyMode.TheVariants.{NoAsk, Streamed, Buffered, Partial}
use Rattle.ext_msgs.specs.declared.modes.PartModes.{PartModes}
use Rattle.http_model.specs.Heads.{is_bodiless}
use Rattle.http_model.specs.declared.types.Direction.{Direction}
use Rattle.http_model.specs.declared.types.Length.{Length}
use Rattle.filter_model.specs.Config.{CourseConfig}
use Rattle.filter_model.specs.Course.{Course, AskedPart, Headers, Body, Trailers, Outgoing, committed, is_body, is_buffered, is_headers, is_stopped, answer_to, answered_piece, pairs, replaces}
use Rattle.filter_model.specs.Account.{fresh_course}
use Rattle.filter_model.specs.Sound.{once}
use Rattle.filter_model.proofs.CourseGrows.{any_same, with_ask, zip_longer}
use Rattle.filter_model.proofs.Sounds.{once_more, once_new}
use Rattle.half_machine.specs.BodyAsks.{BodyAsks}
use Rattle.half_machine.proofs.AtHand.{unreplaced}

clash : true ≡ false → ⊥
clash e = cc

pub pairs_stay : (w : Course) (q : AskedPart) → length w.answers ≤ length w.asks → pairs (with_ask q w) ≡ pairs w
pairs_stay w q n = zip_longer w.asks (q ∷ []) w.answers n

pub answer_stays : (kind : AskedPart → Bool) (w : Course) (q : AskedPart) → length w.answers ≤ length w.asks → answer_to kind (with_ask q w) ≡ answer_to kind w
answer_stays kind w q n = ap (λ l. option_map (λ (q : AskedPart × Common). q.1) (find (λ (q : AskedPart × Common). kind q.0) l)) (pairs_stay w q n)

-- Before anything of the body is asked

pub no_pieces : (asks : List AskedPart) (answers : List Common) → list_any is_body asks ≡ false → filter_map answered_piece (zip asks answers) ≡ []
no_pieces [] answers e = refl
no_pieces (p ∷ asks) [] e = refl
no_pieces (Headers f l ∷ asks) (a ∷ answers) e = no_pieces asks answers e
no_pieces (Body b l ∷ asks) (a ∷ answers) e = absurd (clash e)
no_pieces (Trailers f ∷ asks) (a ∷ answers) e = no_pieces asks answers e

pub fresh_asks : (modes : PartModes) → BodyAsks (fresh_course modes)
fresh_asks modes = record { single = λ b. refl; there = λ e. refl; going = λ e. absurd cc; waits = λ o e. absurd cc }

none_twice : (asks : List AskedPart) → list_any is_body asks ≡ false → once is_body asks ≡ true
none_twice [] e = refl
none_twice (p ∷ asks) e = by (is_body p) e (none_twice asks)
  where
    by : (b : Bool) → (b || list_any is_body asks) ≡ false → (list_any is_body asks ≡ false → once is_body asks ≡ true)
        → (if b then not (list_any is_body asks) else once is_body asks) ≡ true
    by true e f = absurd cc
    by false e f = f e

none_some : (w : Course) (o : Outgoing) → w.head ≡ None → w.head ≡ Some o → ⊥
none_some w o n e = clash (ap is_some (sym e) ∙ ap is_some n)

pub settled_asks : (w : Course) (m : PartModes) → BodyAsks w → list_any is_body w.asks ≡ false → (w.released ≡ false → w.head ≡ None) → BodyAsks (record w { modes = m })
settled_asks w m s n h = record {
  single = λ b. none_twice w.asks n;
  there = s.there;
  going = λ e. absurd (clash (sym e ∙ n));
  waits = λ o e r b. absurd (none_some w o (h r) e);
}

pub headed_asks : (w : Course) (f : List Field) (n : Length) → w.head ≡ None → w.asks ≡ [] → BodyAsks (record w { original = record w.original { head = Some f; length = n; whole = is_bodiless n } })
headed_asks w f n h e =
    let none : list_any is_body w.asks ≡ false = ap (list_any is_body) e in
    record { single = λ b. none_twice w.asks none; there = λ z. none; going = λ z. absurd (clash (sym z ∙ none)); waits = λ o z. absurd (none_some w o h z) }

-- What doesn't touch them

pub read_asks : (w : Course) (b : List ℕ) (ts : List Field) (e : Bool) → BodyAsks w → BodyAsks (record w { original = record w.original { body = w.original.body ++ b; trailers = ts; whole = e } })
read_asks w b ts e s = record { single = s.single; there = s.there; going = s.going; waits = s.waits }

pub aside_asks : (w : Course) (n g : ℕ) → BodyAsks w → BodyAsks (record w { sent = n; given = g })
aside_asks w n g s = record { single = s.single; there = s.there; going = s.going; waits = s.waits }

pub released_asks : (w : Course) → BodyAsks w → BodyAsks (record w { released = true })
released_asks w s = record { single = s.single; there = s.there; going = s.going; waits = λ o e r. absurd (clash r) }

-- The head is chosen

why_chosen : (x y : Option Outgoing) (o : Outgoing) (r settled replaced : Bool) (m : BodyMode) (bare answered : Bool) → r ≡ false → is_buffered m ≡ true
    → (if is_none x && (r || (settled && (not (is_buffered (if r || replaced then NoAsk else m)) || bare || answered))) then y else x) ≡ Some o
    → (x ≡ Some o) ⊎ ((bare ≡ true) ⊎ ((replaced ≡ true) ⊎ (answered ≡ true)))
why_chosen (Some z) y o r settled replaced m bare answered u b e = inl e
why_chosen None y o true settled replaced m bare answered u b e = absurd (clash u)
why_chosen None y o false false replaced m bare answered u b e = absurd cc
why_chosen None y o false true true m bare answered u b e = inr (inr (inl refl))
why_chosen None y o false true false m true answered u b e = inr (inl refl)
why_chosen None y o false true false m false true u b e = inr (inr (inr refl))
why_chosen None y o false true false NoAsk false false u b e = absurd cc
why_chosen None y o false true false Streamed false false u b e = absurd cc
why_chosen None y o false true false Buffered false false u b e = absurd cc
why_chosen None y o false true false Partial false false u b e = absurd cc

pub chosen_asks : (c : CourseConfig) (d : Direction) (w : Course) → BodyAsks w → BodyAsks (committed c d w)
unfolding committed
chosen_asks c d w s = record {
  single = s.single;
  there = s.there;
  going = s.going;
  waits = λ o e r b. from o r b (why_chosen w.head _ o w.released _ (replaces (answer_to is_headers w)) w.modes.body (is_bodiless w.original.length) (is_some (answer_to is_body w)) r b e);
}
  where
    Why : Type 0
    Why = (is_bodiless w.original.length ≡ true) ⊎ ((replaces (answer_to is_headers w) ≡ true) ⊎ (is_some (answer_to is_body w) ≡ true))

    from : (o : Outgoing) → w.released ≡ false → is_buffered w.modes.body ≡ true → (w.head ≡ Some o) ⊎ Why → Why
    from o r b (inl e) = s.waits o e r b
    from o r b (inr e) = e

-- An ask is made

same_waits : (w : Course) (q : AskedPart) → length w.answers ≤ length w.asks → BodyAsks w → (o : Outgoing) → w.head ≡ Some o → w.released ≡ false → is_buffered w.modes.body ≡ true
    → (is_bodiless w.original.length ≡ true) ⊎ ((replaces (answer_to is_headers (with_ask q w)) ≡ true) ⊎ (is_some (answer_to is_body (with_ask q w)) ≡ true))
same_waits w q n s o e r b = from (s.waits o e r b)
  where
    from : (is_bodiless w.original.length ≡ true) ⊎ ((replaces (answer_to is_headers w) ≡ true) ⊎ (is_some (answer_to is_body w) ≡ true))
        → (is_bodiless w.original.length ≡ true) ⊎ ((replaces (answer_to is_headers (with_ask q w)) ≡ true) ⊎ (is_some (answer_to is_body (with_ask q w)) ≡ true))
    from (inl e) = inl e
    from (inr (inl e)) = inr (inl (ap replaces (answer_stays is_headers w q n) ∙ e))
    from (inr (inr e)) = inr (inr (ap is_some (answer_stays is_body w q n) ∙ e))

pub other_asks : (w : Course) (q : AskedPart) → length w.answers ≤ length w.asks → is_body q ≡ false → BodyAsks w → BodyAsks (with_ask q w)
other_asks w q n e s = record {
  single = λ b. once_more is_body w.asks q e (s.single b);
  there = λ z. any_same is_body w.asks q e ∙ s.there z;
  going = λ z. ap replaces (answer_stays is_headers w q n) ∙ s.going (sym (any_same is_body w.asks q e) ∙ z);
  waits = same_waits w q n s;
}

pub piece_asks : (w : Course) (q : AskedPart) → length w.answers ≤ length w.asks → is_stopped w ≡ false → is_bodiless w.original.length ≡ false
    → (is_buffered w.modes.body ≡ true → list_any is_body w.asks ≡ false) → BodyAsks w → BodyAsks (with_ask q w)
piece_asks w q n t l f s = record {
  single = λ b. once_new is_body w.asks q (f b);
  there = λ z. absurd (clash (sym z ∙ l));
  going = λ z. ap replaces (answer_stays is_headers w q n) ∙ unreplaced is_headers w.asks w.answers t;
  waits = same_waits w q n s;
}
