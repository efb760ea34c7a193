-- Frames of a stream in their order: more of them, and fewer.
use Rattle.std.proofs.Common.{sym, ◌∙◌, ap, inl, inr, ◌⊎◌, append-nil}
use Rattle.std.specs.Prelude.{ℕ, ◌≡◌, Bool, true, false, not, ◌&&◌, ◌||◌, List, [], ◌∷◌, ◌++◌, filter, cond, refl, if◌then◌else◌}
use Rattle.std.specs.List.{list_any}
use Rattle.std.proofs.lemmas.Grind.{flat_map-append}
use Rattle.std.proofs.lemmas.List.Folds.{list_any-append}
use Rattle.h2_frames.specs.declared.frame.Frame.{Frame}
use Rattle.h2_frames.specs.declared.frame.Frame.TheVariants as frame
use Rattle.h2_model.specs.Log.{is_empty}
use Rattle.h2_model.specs.Queue.{has_bytes, is_reset_frame}
use Rattle.http_model.specs.Bytes.{IsPrefix}
use Rattle.hub_laws.specs.Outgoing.{all_data, are_ends, data_of, is_body, is_content, is_finish}

abbrev pub has_finish : List Frame → Bool
has_finish frames = list_any is_finish frames

abbrev pub has_reset : List Frame → Bool
has_reset frames = list_any is_reset_frame frames

-- no piece of a body
abbrev pub is_bare : Frame → Bool
is_bare f = not (has_bytes f)

pub two : (a b : Bool) → (a || b) ≡ true → (a ≡ true) ⊎ (b ≡ true)
two true b h = inl refl
two false b h = inr h

pub both : (a b : Bool) → (a && b) ≡ true → (a ≡ true) × (b ≡ true)
both true b h = (refl, h)
both false b h = absurd cc

pub neither : (a b : Bool) → (a || b) ≡ false → (a ≡ false) × (b ≡ false)
neither true b h = absurd cc
neither false b h = (refl, h)

pub clash : (b : Bool) → b ≡ true → b ≡ false → ⊥
clash true p q = absurd cc
clash false p q = absurd cc

pub first-end : (g : Frame) (fs : List Frame) → are_ends (g ∷ fs) ≡ true → (is_finish g ≡ true) ⊎ (is_reset_frame g ≡ true)
first-end g [] h = two (is_finish g) (is_reset_frame g) h
first-end g (y ∷ []) h = inl (both (is_finish g) (is_reset_frame y) h).0
first-end g (y ∷ z ∷ fs) h = absurd cc

-- behind pieces alone anything may come that a body may be
add-behind : (fs : List Frame) (f : Frame) → is_body fs ≡ true → has_finish fs ≡ false → has_reset fs ≡ false → is_body (f ∷ []) ≡ true
    → is_body (fs ++ f ∷ []) ≡ true
add-behind [] f b e r c = c
add-behind (g ∷ fs) f b e r c =
    let p = neither (is_finish g) (has_finish fs) e in
    let q = neither (is_reset_frame g) (has_reset fs) r in
    by (is_content g) b (λ x. add-behind fs f x p.1 q.1 c) p.0 q.0
  where
    by : (x : Bool) → (if x then is_body fs else are_ends (g ∷ fs)) ≡ true → (is_body fs ≡ true → is_body (fs ++ f ∷ []) ≡ true)
        → is_finish g ≡ false → is_reset_frame g ≡ false → (if x then is_body (fs ++ f ∷ []) else are_ends (g ∷ fs ++ f ∷ [])) ≡ true
    by true b rest p q = rest b
    by false b rest p q = elim (first-end g fs b) [ inl x ↦ absurd (clash (is_finish g) x p) | inr x ↦ absurd (clash (is_reset_frame g) x q) ]

pub finish-bare : (f : Frame) → is_finish f ≡ true → (has_bytes f ≡ false) × (is_content f ≡ false)
finish-bare (frame.Data id bytes last size) h = by last (is_empty bytes) h
  where
    by : (l e : Bool) → (l && e) ≡ true → (not e ≡ false) × ((not l && not e) ≡ false)
    by true true h = (refl, refl)
    by true false h = absurd cc
    by false e h = absurd cc
finish-bare (frame.Headers id block last ends) h = absurd cc
finish-bare (frame.Priority id) h = absurd cc
finish-bare (frame.Reset id code) h = absurd cc
finish-bare (frame.Settings list) h = absurd cc
finish-bare frame.SettingsAck h = absurd cc
finish-bare (frame.Push id) h = absurd cc
finish-bare (frame.Ping ack bytes) h = absurd cc
finish-bare (frame.GoAway last code) h = absurd cc
finish-bare (frame.Window id n) h = absurd cc
finish-bare (frame.Continuation id block ends) h = absurd cc
finish-bare (frame.Unknown kind) h = absurd cc

pub reset-bare : (f : Frame) → is_reset_frame f ≡ true → (has_bytes f ≡ false) × (is_content f ≡ false)
reset-bare (frame.Data id bytes last size) h = absurd cc
reset-bare f h = (refl, refl)

pub content-bytes : (f : Frame) → is_content f ≡ true → has_bytes f ≡ true
content-bytes (frame.Data id bytes last size) h = (both (not last) (not (is_empty bytes)) h).1
content-bytes (frame.Headers id block last ends) h = absurd cc
content-bytes (frame.Priority id) h = absurd cc
content-bytes (frame.Reset id code) h = absurd cc
content-bytes (frame.Settings list) h = absurd cc
content-bytes frame.SettingsAck h = absurd cc
content-bytes (frame.Push id) h = absurd cc
content-bytes (frame.Ping ack bytes) h = absurd cc
content-bytes (frame.GoAway last code) h = absurd cc
content-bytes (frame.Window id n) h = absurd cc
content-bytes (frame.Continuation id block ends) h = absurd cc
content-bytes (frame.Unknown kind) h = absurd cc

-- a reset may follow END_STREAM
pub add-reset : (fs : List Frame) (f : Frame) → is_body fs ≡ true → has_reset fs ≡ false → is_reset_frame f ≡ true → is_body (fs ++ f ∷ []) ≡ true
add-reset [] f b r c = ap (λ x. if x then true else (is_finish f || is_reset_frame f)) (reset-bare f c).1 ∙ or_last (is_finish f) (is_reset_frame f) c
  where
    or_last : (a b : Bool) → b ≡ true → (a || b) ≡ true
    or_last true b h = refl
    or_last false b h = h
add-reset (g ∷ fs) f b r c =
    let q = neither (is_reset_frame g) (has_reset fs) r in by (is_content g) b (λ x. add-reset fs f x q.1 c) q.0 q.1
  where
    one : (g f : Frame) → is_finish g ≡ true → is_reset_frame f ≡ true → (is_finish g && is_reset_frame f) ≡ true
    one g f p q = ap (λ x. x && is_reset_frame f) p ∙ q

    ends : (fs : List Frame) → are_ends (g ∷ fs) ≡ true → is_reset_frame g ≡ false → has_reset fs ≡ false → are_ends (g ∷ fs ++ f ∷ []) ≡ true
    ends [] b p q = elim (first-end g [] b) [ inl x ↦ one g f x c | inr x ↦ absurd (clash (is_reset_frame g) x p) ]
    ends (y ∷ []) b p q = absurd (clash (is_reset_frame y) (both (is_finish g) (is_reset_frame y) b).1 (neither (is_reset_frame y) false q).0)
    ends (y ∷ z ∷ more) b p q = absurd cc

    by : (x : Bool) → (if x then is_body fs else are_ends (g ∷ fs)) ≡ true → (is_body fs ≡ true → is_body (fs ++ f ∷ []) ≡ true)
        → is_reset_frame g ≡ false → has_reset fs ≡ false → (if x then is_body (fs ++ f ∷ []) else are_ends (g ∷ fs ++ f ∷ [])) ≡ true
    by true b rest p q = rest b
    by false b rest p q = ends fs b p q

pub add-content : (fs : List Frame) (f : Frame) → is_body fs ≡ true → has_finish fs ≡ false → has_reset fs ≡ false → is_content f ≡ true
    → is_body (fs ++ f ∷ []) ≡ true
add-content fs f b e r c = add-behind fs f b e r (ap (λ x. if x then true else (is_finish f || is_reset_frame f)) c)

pub add-finish : (fs : List Frame) (f : Frame) → is_body fs ≡ true → has_finish fs ≡ false → has_reset fs ≡ false → is_finish f ≡ true
    → is_body (fs ++ f ∷ []) ≡ true
add-finish fs f b e r c =
    add-behind fs f b e r (ap (λ x. if x then true else (is_finish f || is_reset_frame f)) (finish-bare f c).1 ∙ ap (λ x. x || is_reset_frame f) c)

-- Without pieces from some place on

bare-or : (f : Frame) → (is_finish f ≡ true) ⊎ (is_reset_frame f ≡ true) → is_bare f ≡ true
bare-or f (inl x) = ap not (finish-bare f x).0
bare-or f (inr x) = ap not (reset-bare f x).0

ends-stay : (fs : List Frame) → are_ends fs ≡ true → filter is_bare fs ≡ fs
ends-stay [] h = refl
ends-stay (x ∷ []) h = ap (λ b. cond b (x ∷ []) []) (bare-or x (first-end x [] h))
ends-stay (x ∷ y ∷ []) h =
    let p = both (is_finish x) (is_reset_frame y) h in
    ap (λ b. cond b (x ∷ filter is_bare (y ∷ [])) (filter is_bare (y ∷ []))) (bare-or x (inl p.0)) ∙ ap (λ b. x ∷ cond b (y ∷ []) []) (bare-or y (inr p.1))
ends-stay (x ∷ y ∷ z ∷ fs) h = absurd cc

bare-body : (fs : List Frame) → is_body fs ≡ true → is_body (filter is_bare fs) ≡ true
bare-body [] h = refl
bare-body (f ∷ fs) h = by (is_content f) refl h (λ x. bare-body fs x)
  where
    by : (x : Bool) → is_content f ≡ x → (if x then is_body fs else are_ends (f ∷ fs)) ≡ true → (is_body fs ≡ true → is_body (filter is_bare fs) ≡ true)
        → is_body (filter is_bare (f ∷ fs)) ≡ true
    by true c h rest = ap (λ b. is_body (cond (not b) (f ∷ filter is_bare fs) (filter is_bare fs))) (content-bytes f c) ∙ rest h
    by false c h rest = ap is_body (ends-stay (f ∷ fs) h) ∙ ap (λ b. if b then is_body fs else are_ends (f ∷ fs)) c ∙ h

pub cut-body : (kept lost : List Frame) → is_body (kept ++ lost) ≡ true → is_body (kept ++ filter is_bare lost) ≡ true
cut-body [] lost h = bare-body lost h
cut-body (f ∷ kept) lost h = by (is_content f) h (λ x. cut-body kept lost x)
  where
    same : (kept : List Frame) → are_ends (f ∷ kept ++ lost) ≡ true → are_ends (f ∷ kept ++ filter is_bare lost) ≡ true
    same [] h = later lost h
      where
        later : (lost : List Frame) → are_ends (f ∷ lost) ≡ true → are_ends (f ∷ filter is_bare lost) ≡ true
        later [] h = h
        later (y ∷ []) h =
            ap (λ b. are_ends (f ∷ cond b (y ∷ []) [])) (bare-or y (inr (both (is_finish f) (is_reset_frame y) h).1)) ∙ h
        later (y ∷ z ∷ more) h = absurd cc
    same (y ∷ []) h = last lost h
      where
        last : (lost : List Frame) → are_ends (f ∷ y ∷ lost) ≡ true → are_ends (f ∷ y ∷ filter is_bare lost) ≡ true
        last [] h = h
        last (z ∷ more) h = absurd cc
    same (y ∷ z ∷ kept) h = absurd cc

    by : (x : Bool) → (if x then is_body (kept ++ lost) else are_ends (f ∷ kept ++ lost)) ≡ true
        → (is_body (kept ++ lost) ≡ true → is_body (kept ++ filter is_bare lost) ≡ true)
        → (if x then is_body (kept ++ filter is_bare lost) else are_ends (f ∷ kept ++ filter is_bare lost)) ≡ true
    by true h rest = rest h
    by false h rest = same kept h

empty-is : (xs : List ℕ) → not (is_empty xs) ≡ false → xs ≡ []
empty-is [] h = refl
empty-is (x ∷ xs) h = absurd cc

bare-data : (f : Frame) → has_bytes f ≡ false → data_of f ≡ []
bare-data (frame.Data id bytes last size) h = empty-is bytes h
bare-data f h = refl

no-data : (fs : List Frame) → all_data (filter is_bare fs) ≡ []
no-data [] = refl
no-data (f ∷ fs) = by (has_bytes f) refl (no-data fs)
  where
    by : (b : Bool) → has_bytes f ≡ b → all_data (filter is_bare fs) ≡ [] → all_data (cond (not b) (f ∷ filter is_bare fs) (filter is_bare fs)) ≡ []
    by true h rest = rest
    by false h rest = ap (λ d. d ++ all_data (filter is_bare fs)) (bare-data f h) ∙ rest

pub cut-data : (kept lost : List Frame) → IsPrefix (all_data (kept ++ filter is_bare lost)) (all_data (kept ++ lost))
cut-data kept lost = record {
  rest = all_data lost;
  whole = ap (λ d. d ++ all_data lost) (flat_map-append data_of kept (filter is_bare lost) ∙ ap (λ d. all_data kept ++ d) (no-data lost) ∙ append-nil (all_data kept))
      ∙ sym (flat_map-append data_of kept lost);
}

bare-any : (p : Frame → Bool) → ((f : Frame) → p f ≡ true → is_bare f ≡ true) → (fs : List Frame) → list_any p (filter is_bare fs) ≡ list_any p fs
bare-any p keeps [] = refl
bare-any p keeps (f ∷ fs) = by (is_bare f) refl (bare-any p keeps fs)
  where
    no : (b : Bool) → p f ≡ b → is_bare f ≡ false → b ≡ false
    no true h x = absurd (clash (is_bare f) (keeps f h) x)
    no false h x = refl

    by : (b : Bool) → is_bare f ≡ b → list_any p (filter is_bare fs) ≡ list_any p fs
        → list_any p (cond b (f ∷ filter is_bare fs) (filter is_bare fs)) ≡ (p f || list_any p fs)
    by true h rest = ap (λ x. p f || x) rest
    by false h rest = rest ∙ ap (λ x. x || list_any p fs) (sym (no (p f) refl h))

pub cut-any : (p : Frame → Bool) → ((f : Frame) → p f ≡ true → is_bare f ≡ true) → (kept lost : List Frame)
    → list_any p (kept ++ filter is_bare lost) ≡ list_any p (kept ++ lost)
cut-any p keeps kept lost =
    list_any-append p kept (filter is_bare lost) ∙ ap (λ x. list_any p kept || x) (bare-any p keeps lost) ∙ sym (list_any-append p kept lost)

pub finish-stays : (f : Frame) → is_finish f ≡ true → is_bare f ≡ true
finish-stays f h = bare-or f (inl h)

pub reset-stays : (f : Frame) → is_reset_frame f ≡ true → is_bare f ≡ true
reset-stays f h = bare-or f (inr h)
