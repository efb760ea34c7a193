-- What is read of a message, told to its half, makes of the half's course what it makes of the account's.
use Rattle.std.proofs.Common.{inl, inr, sym, ◌∙◌, ap, refl, arith, append-nil, eqb-true, le-leb}
use Rattle.std.proofs.lemmas.List.{drop_at}
use Rattle.std.specs.Prelude.{ℕ, ◌≡◌, ◌≤◌, Bool, true, false, not, ◌&&◌, List, [], ◌∷◌, ◌++◌, length, drop, Option, Some, None, if◌then◌else◌}
use Rattle.ext_msgs.specs.declared.lists.Field.{Field}
use Rattle.ext_msgs.specs.declared.answer.Common.{Common}
use Rattle.http_model.specs.Bytes.{IsPrefix, is_empty}
use Rattle.http_model.specs.Reading.{Reading, Whole, Partial, Bad, Fault}
use Rattle.http_model.specs.Heads.{Head, message_head, is_bodiless}
use Rattle.http_model.specs.Bodies.{body}
use Rattle.http_model.specs.Reads.{Original, unread, reads, read_by}
use Rattle.http_model.specs.Reader.{Extends, Longer}
use Rattle.http_model.specs.declared.types.Direction.{Direction}
use Rattle.http_model.specs.declared.types.Length.{Length}
use Rattle.http_model.specs.declared.types.Length.TheVariants.{NoBody, Known, Chunked, Close}
use Rattle.http_model.proofs.BodiesGrow.{body_grows, no_body}
use Rattle.filter_model.specs.Config.{CourseConfig}
use Rattle.filter_model.specs.Course.{Course, AskedPart, committed, asked, is_over}
use Rattle.filter_model.specs.Half.{HalfCall, Bytes, End, called}
use Rattle.filter_model.specs.Sound.{Sound}
use Rattle.filter_model.specs.Told.{ReadWell, Comes, known, told, more, more_calls, news, news_at}
use Rattle.filter_model.proofs.Known.{committed_known, asked_known, due_known}
use Rattle.filter_model.proofs.ToldSame.{Start, begun, rests}
use Rattle.filter_model.proofs.ToldHead.{unbegun, head_told}

-- A reader's originals

bodiless_whole : (n : Length) (e : Bool) (rest : List ℕ) → is_bodiless n ≡ true → ((body n e rest).trailers ≡ []) × ((body n e rest).whole ≡ true)
bodiless_whole NoBody e rest b = (refl, refl)
bodiless_whole (Known n) e rest b = let z : n ≡ 0 = eqb-true n 0 b in (refl, le-leb n (length rest) (omega (arith, z)))
bodiless_whole Chunked e rest b = absurd cc
bodiless_whole Close e rest b = absurd cc

well_by : (d : Direction) (bytes : List ℕ) (e : Bool) (r : Reading Head) → ReadWell (read_by d bytes e r)
well_by d bytes e (Whole h rest) = record {
  unread = λ n. absurd (some h.fields n);
  bare = λ w. (body_grows h.length e e rest [] w).trailers;
  bodiless = λ f n b. let k = bodiless_whole h.length e rest b in (no_body h.length e rest b, k.0, k.1);
}
  where
    some : (f : List Field) → Some f ≡ None → ⊥
    some f n = cc
well_by d bytes e Partial = record { unread = λ n. (_, refl); bare = λ w. refl; bodiless = λ f n b. absurd cc }
well_by d bytes e (Bad f) = record { unread = λ n. (_, refl); bare = λ w. refl; bodiless = λ f n b. absurd cc }

pub reads_well : (d : Direction) (to_head : Bool) (bytes : List ℕ) (e : Bool) → ReadWell (reads d to_head bytes e)
unfolding reads
reads_well d to_head bytes e = well_by d bytes e (message_head d to_head bytes)

-- Nothing came

none_of : (w : Bool) (l : List ℕ) (calls : List HalfCall) → l ≡ [] → (if w then [] else (if not w && is_empty l then [] else calls)) ≡ []
none_of true l calls e = refl
none_of false l calls e = ap (λ l. if is_empty l then [] else calls) e

drop_all : (l : List ℕ) → drop (length l) l ≡ []
drop_all [] = refl
drop_all (x ∷ l) = drop_all l

pub no_news : (c : CourseConfig) (d : Direction) (w : Course) → news c d (known w) w.original ≡ []
no_news c d w = by w.original.head
  where
    by : (o : Option (List Field)) → news_at c d (known w) w.original o o ≡ []
    by None = refl
    by (Some h) = none_of w.original.whole (drop (length w.original.body) w.original.body) (more w.original (drop (length w.original.body) w.original.body) ∷ []) (drop_all w.original.body)

-- what the entry makes of a half's course at once
abbrev Read : CourseConfig → Direction → Course → Original → Course
Read c d w now = asked c d (committed c d (known (record w { original = now })))

at_rest : (c : CourseConfig) (d : Direction) (w : Course) (now : Original) → Comes c d w now → asked c d (committed c d (known w)) ≡ known w
at_rest c d w now y = rests c d (known w) y.chosen (due_known c d w ∙ y.asked)

unchanged : (c : CourseConfig) (d : Direction) (w : Course) (now : Original) → Comes c d w now → now ≡ w.original → told c d (news c d (known w) now) (known w) ≡ Read c d w now
unchanged c d w now y e =
    ap (λ o. told c d (news c d (known w) o) (known w)) e ∙ ap (λ l. told c d l (known w)) (no_news c d w)
    ∙ sym (at_rest c d w now y) ∙ ap (Read c d w) (sym e)

-- Before the head

abbrev pub start_of : List Field → Length → Course → Start
start_of h n w = record { head = h; length = n; modes = w.modes; sent = w.sent; given = w.given; released = w.released }

-- nothing was asked and answered, and no head was chosen
pub record Bare (w : Course) : Type 0 where
  pub asks : w.asks ≡ []
  pub answers : w.answers ≡ []
  pub head : w.head ≡ None

none_answered : (l : List Common) (asks : List AskedPart) → length l ≤ length asks → asks ≡ [] → l ≡ []
none_answered [] asks h e = refl
none_answered (x ∷ l) asks h e = let z : length asks ≡ 0 = ap length e in absurd (omega (arith, h, z))

pub bare_of : (c : CourseConfig) (w : Course) → Sound c w → w.original.head ≡ None → Bare w
bare_of c w s n = let k = s.head_read n in record { asks = k.1; answers = none_answered w.answers w.asks s.counts k.1; head = k.0 }

bare_is : (w : Course) (o : Original) → Bare w → known (record w { original = o }) ≡ known (record w { original = o; asks = []; answers = []; head = None })
bare_is w o b =
    ap (λ x. known (record w { original = o; asks = x })) b.asks
    ∙ ap (λ x. known (record w { original = o; asks = []; answers = x })) b.answers
    ∙ ap (λ x. known (record w { original = o; asks = []; answers = []; head = x })) b.head

pub unread_is : (w : Course) (h : List Field) (n : Length) (f : Option Fault) → Bare w → w.original ≡ unread f → known w ≡ unbegun (start_of h n w)
unread_is w h n f b e = ap (λ x. known (record w { original = x })) e ∙ bare_is w (unread f) b

pub begun_is : (w : Course) (h : List Field) (now : Original) → Bare w → now.head ≡ Some h
    → known (record w { original = now }) ≡ begun (start_of h now.length w) now.body now.trailers now.whole [] None
begun_is w h now b e = ap (λ x. known (record w { original = record now { head = x } })) e ∙ bare_is w (record now { head = Some h }) b

-- no head yet
still_unread : (c : CourseConfig) (d : Direction) (w : Course) (now : Original) → Comes c d w now → w.original.head ≡ None → now.head ≡ None
    → told c d (news c d (known w) now) (known w) ≡ Read c d w now
still_unread c d w now y n m =
    let f = y.before.unread n in
    let g = y.after.unread m in
    ap (λ o. told c d (news_at c d (known w) now o now.head) (known w)) n ∙ ap (λ o. told c d (news_at c d (known w) now None o) (known w)) m
    ∙ sym (at_rest c d w now y)
    ∙ ap (λ x. asked c d (committed c d x)) (ap (λ x. known (record w { original = x })) f.1 ∙ ap (λ x. known (record w { original = x })) (sym g.1))

-- the head
head_read : (c : CourseConfig) (d : Direction) (w : Course) (now : Original) (h : List Field) → Comes c d w now → w.original.head ≡ None → now.head ≡ Some h
    → told c d (news c d (known w) now) (known w) ≡ Read c d w now
head_read c d w now h y n m =
    let b : Bare w = bare_of c w y.sound n in
    let s : Start = start_of h now.length w in
    let x = y.before.unread n in
    let all : known (record w { original = now }) ≡ begun s now.body now.trailers now.whole [] None = begun_is w h now b m in
    ap (λ o. told c d (news_at c d (known w) now o now.head) (known w)) n ∙ ap (λ o. told c d (news_at c d (known w) now None o) (known w)) m
    ∙ ap (λ z. told c d (news_at c d z now None (Some h)) z) (unread_is w h now.length x.0 b x.1)
    ∙ head_told c d s now (record {
      framed = refl;
      bodiless = λ e. y.after.bodiless h m e;
      bare = y.after.bare;
      short = y.short n;
      sizes = y.sizes;
      within = ap (is_over c) (sym all) ∙ y.within n;
    })
    ∙ ap (λ z. asked c d (committed c d z)) (sym all)

-- Behind the head

grown_is : (xs ys : List ℕ) → IsPrefix xs ys → xs ++ drop (length xs) ys ≡ ys
grown_is xs ys p = ap (λ l. xs ++ l) (ap (drop (length xs)) (sym p.whole) ∙ drop_at xs p.rest (length xs) refl) ∙ p.whole

-- the original reads on as the half is told
more_is : (w : Course) (now : Original) → Longer w.original now → (now.whole ≡ false → now.trailers ≡ [])
    → known (record w { original = now }) ≡ called (more now (drop (length w.original.body) now.body)) (known w)
more_is w now l e =
    ap (λ x. known (record w { original = record now { head = x } })) l.head
    ∙ ap (λ x. known (record w { original = record now { head = w.original.head; length = x } })) l.length
    ∙ ap (λ x. known (record w { original = record now { head = w.original.head; length = w.original.length; body = x } })) (sym (grown_is w.original.body now.body l.body))
    ∙ by now.whole e
  where
    grown : List ℕ
    grown = drop (length w.original.body) now.body

    by : (b : Bool) → (b ≡ false → now.trailers ≡ [])
        → known (record w { original = record w.original { body = w.original.body ++ grown; trailers = now.trailers; whole = b } })
        ≡ called (if b then End grown now.trailers else Bytes grown) (known w)
    by true e = refl
    by false e =
        ap (λ t. known (record w { original = record w.original { body = w.original.body ++ grown; trailers = t; whole = false } })) (e refl ∙ sym l.trailers)
        ∙ ap (λ b. known (record w { original = record w.original { body = w.original.body ++ grown; whole = b } })) (sym l.unfinished)

longer : (c : CourseConfig) (d : Direction) (w : Course) (now : Original) (h : List Field) → Comes c d w now → w.original.head ≡ Some h → Longer w.original now
    → told c d (news c d (known w) now) (known w) ≡ Read c d w now
longer c d w now h y m l =
    ap (λ o. told c d (news_at c d (known w) now o now.head) (known w)) m
    ∙ ap (λ b. told c d (if b then [] else more_calls now grown) (known w)) l.unfinished
    ∙ by now.whole grown refl refl
  where
    grown : List ℕ
    grown = drop (length w.original.body) now.body

    some : told c d (more now grown ∷ []) (known w) ≡ Read c d w now
    some = ap (λ x. asked c d (committed c d x)) (sym (more_is w now l y.after.bare))

    none : now.whole ≡ false → grown ≡ [] → known w ≡ Read c d w now
    none e g =
        sym (at_rest c d w now y)
        ∙ ap (λ x. asked c d (committed c d x))
        (ap (λ t. known (record w { original = record w.original { body = t } })) (sym (append-nil w.original.body))
        ∙ ap (λ t. called (Bytes t) (known w)) (sym g)
        ∙ ap (λ b. called (if b then End grown now.trailers else Bytes grown) (known w)) (sym e)
        ∙ sym (more_is w now l y.after.bare))

    by : (b : Bool) (t : List ℕ) → now.whole ≡ b → grown ≡ t → told c d (if not b && is_empty t then [] else more now grown ∷ []) (known w) ≡ Read c d w now
    by true t e g = some
    by false (x ∷ t) e g = some
    by false [] e g = none e g

-- In every case

told_at_once : (c : CourseConfig) (d : Direction) (w : Course) (now : Original) → Comes c d w now → told c d (news c d (known w) now) (known w) ≡ Read c d w now
told_at_once c d w now y = by w.original.head refl
  where
    some : (h : List Field) → Some h ≡ None → ⊥
    some h e = cc

    behind : (h : List Field) → w.original.head ≡ Some h → Extends w.original now → told c d (news c d (known w) now) (known w) ≡ Read c d w now
    behind h m (inl e) = unchanged c d w now y e
    behind h m (inr (inl n)) = absurd (some h (sym m ∙ n))
    behind h m (inr (inr l)) = longer c d w now h y m l

    before : w.original.head ≡ None → (o : Option (List Field)) → now.head ≡ o → told c d (news c d (known w) now) (known w) ≡ Read c d w now
    before n None m = still_unread c d w now y n m
    before n (Some h) m = head_read c d w now h y n m

    by : (o : Option (List Field)) → w.original.head ≡ o → told c d (news c d (known w) now) (known w) ≡ Read c d w now
    by None n = before n now.head refl
    by (Some h) m = behind h m y.extends

-- the half knows then what the account has
pub told_reading : (c : CourseConfig) (d : Direction) (w : Course) (now : Original) → Comes c d w now
    → told c d (news c d (known w) now) (known w) ≡ known (asked c d (committed c d (record w { original = now })))
told_reading c d w now y =
    told_at_once c d w now y ∙ ap (asked c d) (committed_known c d (record w { original = now })) ∙ asked_known c d (committed c d (record w { original = now }))
