-- The fields that are shown, one by one.
use Rattle.std.proofs.Common.{◌≡◌, ◌≢◌, ℕ, ◌+◌, ◌-◌, ◌<◌, ◌≤◌, ◌==◌, ◌&&◌, ◌||◌, not, Bool, true, false, if◌then◌else◌, List, [], ◌∷◌, ◌++◌, length, get_or, take, drop, map, filter, refl, sym, ap, ◌∙◌, arith, subst, bytes_eq, codes, length-take, length-drop, append_assoc}
use Rattle.std.specs.Prelude.{flat_map}
use Rattle.std.proofs.Math.Seq.{take-append-add}
use Rattle.std.proofs.lemmas.List.{drop_more, drop_all, take_all, take-append-drop, drop-drop}
use Rattle.std.proofs.lemmas.List.Folds.{list_any-append}
use Rattle.std.proofs.lemmas.Bool.Decides.{nat_tests}
use Rattle.ext_msgs.specs.declared.lists.Field.{Field}
use Rattle.http_model.specs.Bytes.{is_named, values_of, lower, trim, with_first, comma_parts, list_items, is_one_of, without, owned_names}
use Rattle.http_model.specs.Heads.{connection_options, is_shown, one_length, shown_fields}
use Rattle.h1_read.proofs.LineParts.{Lacks, Lacks-append}
use Rattle.h1_read.proofs.NamedFields.{named_here, named_next, named_none}

pub nat_eq_sym : (x y : ℕ) → (x == y) ≡ (y == x)
nat_eq_sym x y = grind (arith, nat_tests)

pub bytes_eq_sym : (a b : List ℕ) → bytes_eq a b ≡ bytes_eq b a
bytes_eq_sym [] [] = refl
bytes_eq_sym [] (y ∷ b) = refl
bytes_eq_sym (x ∷ a) [] = refl
bytes_eq_sym (x ∷ a) (y ∷ b) = rw (nat_eq_sym x y, bytes_eq_sym a b) refl

-- Items

parts_lacks : (a : List ℕ) → Lacks 44 a → comma_parts a ≡ a ∷ []
parts_lacks [] x = refl
parts_lacks (b ∷ a) x = ap (λ t. if t then [] ∷ comma_parts a else with_first b (comma_parts a)) x.0 ∙ ap (with_first b) (parts_lacks a x.1)

parts_first : (a s : List ℕ) → Lacks 44 a → comma_parts (a ++ 44 ∷ s) ≡ a ∷ comma_parts s
parts_first [] s x = refl
parts_first (b ∷ a) s x =
    ap (λ t. if t then [] ∷ comma_parts (a ++ 44 ∷ s) else with_first b (comma_parts (a ++ 44 ∷ s))) x.0 ∙ ap (with_first b) (parts_first a s x.1)

-- the bytes from start on, up to i
abbrev pub item : List ℕ → ℕ → ℕ → List ℕ
item list start i = take (i - start) (drop start list)

rest_from : (list : List ℕ) (start i : ℕ) → start ≤ i → i < length list → drop start list ≡ item list start i ++ (get_or list i 0 ∷ drop (i + 1) list)
rest_from list start i le h =
    let sum : start + (i - start) ≡ i = omega arith in
    sym (take-append-drop (i - start) (drop start list))
    ∙ ap (λ t. item list start i ++ t) (behind start (i - start) list ∙ ap (λ n. drop n list) sum ∙ drop_more list i 0 h)
  where
    behind : (m n : ℕ) (s : List ℕ) → drop n (drop m s) ≡ drop (m + n) s
    behind m n s = drop-drop n m s

byte_in : (list : List ℕ) (start i : ℕ) → start ≤ i → i < length list → item list start (i + 1) ≡ item list start i ++ get_or list i 0 ∷ []
byte_in list start i le h =
    let size : length (item list start i) ≡ i - start = omega (arith, length-take (i - start) (drop start list), length-drop start list) in
    let more : i + 1 - start ≡ length (item list start i) + 1 = omega (arith, size) in
    ap (λ n. take n (drop start list)) more
    ∙ ap (take (length (item list start i) + 1)) (rest_from list start i le h)
    ∙ take-append-add (item list start i) (get_or list i 0 ∷ drop (i + 1) list) 1

pub item_goes_on : (list : List ℕ) (start i : ℕ) → start ≤ i → i < length list → Lacks 44 (item list start i) → get_or list i 0 ≢ 44 → Lacks 44 (item list start (i + 1))
item_goes_on list start i le h x e =
    subst (Lacks 44) (sym (byte_in list start i le h)) (Lacks-append 44 (item list start i) (get_or list i 0 ∷ []) x (grind (arith, nat_tests, e), tt))

pub item_starts : (list : List ℕ) (i : ℕ) → Lacks 44 (item list (i + 1) (i + 1))
item_starts list i = subst (λ n. Lacks 44 (take n (drop (i + 1) list))) (none i) tt
  where
    none : (i : ℕ) → 0 ≡ i + 1 - (i + 1)
    none i = omega arith

items_at : (list : List ℕ) (start i : ℕ) → start ≤ i → i < length list → Lacks 44 (item list start i) → get_or list i 0 ≡ 44
    → list_items (drop start list) ≡ trim (item list start i) ∷ list_items (drop (i + 1) list)
items_at list start i le h x e =
    ap (map trim)
    (ap comma_parts (rest_from list start i le h ∙ ap (λ b. item list start i ++ b ∷ drop (i + 1) list) e) ∙ parts_first (item list start i) (drop (i + 1) list) x)

pub item_found : (list name : List ℕ) (start i : ℕ) → start ≤ i → i < length list → Lacks 44 (item list start i) → get_or list i 0 ≡ 44
    → bytes_eq name (lower (trim (item list start i))) ≡ true → is_one_of (map lower (list_items (drop start list))) name ≡ true
item_found list name start i le h x e f =
    ap (λ l. is_one_of (map lower l) name) (items_at list start i le h x e) ∙ ap (λ t. t || is_one_of (map lower (list_items (drop (i + 1) list))) name) f

pub item_passed : (list name : List ℕ) (start i : ℕ) → start ≤ i → i < length list → Lacks 44 (item list start i) → get_or list i 0 ≡ 44
    → bytes_eq name (lower (trim (item list start i))) ≡ false
    → is_one_of (map lower (list_items (drop start list))) name ≡ is_one_of (map lower (list_items (drop (i + 1) list))) name
item_passed list name start i le h x e f =
    ap (λ l. is_one_of (map lower l) name) (items_at list start i le h x e) ∙ ap (λ t. t || is_one_of (map lower (list_items (drop (i + 1) list))) name) f

pub item_last : (list name : List ℕ) (start i : ℕ) → length list ≤ i → Lacks 44 (item list start i)
    → is_one_of (map lower (list_items (drop start list))) name ≡ bytes_eq name (lower (trim (drop start list)))
item_last list name start i past x =
    let whole : item list start i ≡ drop start list = take_all (i - start) (drop start list) (omega (arith, length-drop start list)) in
    ap (λ l. is_one_of (map lower (map trim l)) name) (parts_lacks (drop start list) (subst (Lacks 44) whole x)) ∙ one (bytes_eq name (lower (trim (drop start list))))
  where
    one : (t : Bool) → (t || false) ≡ t
    one true = refl
    one false = refl

-- Options of `connection`

abbrev options_in : List (List ℕ) → List (List ℕ)
options_in values = flat_map (λ value. map lower (list_items value)) values

options_cons : (name value : List ℕ) (values : List (List ℕ))
    → is_one_of (options_in (value ∷ values)) name ≡ (is_one_of (map lower (list_items value)) name || is_one_of (options_in values) name)
options_cons name value values = list_any-append (bytes_eq name) (map lower (list_items value)) (options_in values)

pub option_here : (name : List ℕ) (fields : List Field) (i : ℕ) (d : Field) → i < length fields → is_named (codes "connection") (get_or fields i d) ≡ true
    → is_one_of (map lower (list_items (get_or fields i d).value)) name ≡ true → is_one_of (connection_options (drop i fields)) name ≡ true
option_here name fields i d h e f =
    ap (λ l. is_one_of (options_in l) name) (named_here (codes "connection") fields i d h e)
    ∙ options_cons name (get_or fields i d).value (values_of (codes "connection") (drop (i + 1) fields))
    ∙ ap (λ t. t || is_one_of (connection_options (drop (i + 1) fields)) name) f

pub option_next : (name : List ℕ) (fields : List Field) (i : ℕ) (d : Field) → i < length fields
    → (is_named (codes "connection") (get_or fields i d) && is_one_of (map lower (list_items (get_or fields i d).value)) name) ≡ false
    → is_one_of (connection_options (drop i fields)) name ≡ is_one_of (connection_options (drop (i + 1) fields)) name
option_next name fields i d h e = by (is_named (codes "connection") (get_or fields i d)) (is_one_of (map lower (list_items (get_or fields i d).value)) name) refl refl e
  where
    by : (x y : Bool) → is_named (codes "connection") (get_or fields i d) ≡ x → is_one_of (map lower (list_items (get_or fields i d).value)) name ≡ y → (x && y) ≡ false
        → is_one_of (connection_options (drop i fields)) name ≡ is_one_of (connection_options (drop (i + 1) fields)) name
    by true true f g k = absurd cc
    by true false f g k =
        ap (λ l. is_one_of (options_in l) name) (named_here (codes "connection") fields i d h f)
        ∙ options_cons name (get_or fields i d).value (values_of (codes "connection") (drop (i + 1) fields))
        ∙ ap (λ t. t || is_one_of (connection_options (drop (i + 1) fields)) name) g
    by false y f g k = ap (λ l. is_one_of (options_in l) name) (named_next (codes "connection") fields i d h f)

pub option_none : (name : List ℕ) (fields : List Field) (i : ℕ) → length fields ≤ i → is_one_of (connection_options (drop i fields)) name ≡ false
option_none name fields i h = ap (λ l. is_one_of (options_in l) name) (named_none (codes "connection") fields i h)

-- What is shown

pub hidden_by : (options : List (List ℕ)) (name : List ℕ) → is_one_of (owned_names ++ options) name ≡ (is_one_of owned_names name || is_one_of options name)
hidden_by options name = list_any-append (bytes_eq name) owned_names options

-- what is left of some fields, where a length was shown or not
abbrev pub left : List (List ℕ) → Bool → List Field → List Field
left hidden true fields = without (codes "content-length" ∷ []) (filter (is_shown hidden) fields)
left hidden false fields = one_length (filter (is_shown hidden) fields)

filter_kept : (test : Field → Bool) (f : Field) (fields : List Field) → test f ≡ true → filter test (f ∷ fields) ≡ f ∷ filter test fields
filter_kept test f fields e = rw e refl

filter_left : (test : Field → Bool) (f : Field) (fields : List Field) → test f ≡ false → filter test (f ∷ fields) ≡ filter test fields
filter_left test f fields e = rw e refl

without_kept : (f : Field) (fields : List Field) → is_named (codes "content-length") f ≡ false → without (codes "content-length" ∷ []) (f ∷ fields) ≡ f ∷ without (codes "content-length" ∷ []) fields
without_kept f fields e = filter_kept (λ (g : Field). not (is_one_of (codes "content-length" ∷ []) g.name)) f fields (ap (λ t. not (t || false)) e)

without_left : (f : Field) (fields : List Field) → is_named (codes "content-length") f ≡ true → without (codes "content-length" ∷ []) (f ∷ fields) ≡ without (codes "content-length" ∷ []) fields
without_left f fields e = filter_left (λ (g : Field). not (is_one_of (codes "content-length" ∷ []) g.name)) f fields (ap (λ t. not (t || false)) e)

left_kept : (hidden : List (List ℕ)) (h : Bool) (f : Field) (fields : List Field) → is_shown hidden f ≡ true → (h && is_named (codes "content-length") f) ≡ false
    → left hidden h (f ∷ fields) ≡ f ∷ left hidden (h || is_named (codes "content-length") f) fields
left_kept hidden true f fields e g = ap (without (codes "content-length" ∷ [])) (filter_kept (is_shown hidden) f fields e) ∙ without_kept f (filter (is_shown hidden) fields) g
left_kept hidden false f fields e g = ap one_length (filter_kept (is_shown hidden) f fields e) ∙ by (is_named (codes "content-length") f)
  where
    by : (t : Bool) → f ∷ (if t then without (codes "content-length" ∷ []) (filter (is_shown hidden) fields) else one_length (filter (is_shown hidden) fields)) ≡ f ∷ left hidden t fields
    by true = refl
    by false = refl

left_hidden : (hidden : List (List ℕ)) (h : Bool) (f : Field) (fields : List Field) → is_shown hidden f ≡ false → left hidden h (f ∷ fields) ≡ left hidden h fields
left_hidden hidden true f fields e = ap (without (codes "content-length" ∷ [])) (filter_left (is_shown hidden) f fields e)
left_hidden hidden false f fields e = ap one_length (filter_left (is_shown hidden) f fields e)

left_again : (hidden : List (List ℕ)) (f : Field) (fields : List Field) → is_shown hidden f ≡ true → is_named (codes "content-length") f ≡ true → left hidden true (f ∷ fields) ≡ left hidden true fields
left_again hidden f fields e g = ap (without (codes "content-length" ∷ [])) (filter_kept (is_shown hidden) f fields e) ∙ without_left f (filter (is_shown hidden) fields) g

pub kept_at : (hidden : List (List ℕ)) (h : Bool) (fields : List Field) (i : ℕ) (d : Field) → i < length fields
    → (is_shown hidden (get_or fields i d) && not (h && is_named (codes "content-length") (get_or fields i d))) ≡ true
    → left hidden h (drop i fields) ≡ get_or fields i d ∷ left hidden (h || is_named (codes "content-length") (get_or fields i d)) (drop (i + 1) fields)
kept_at hidden h fields i d inside e =
    ap (left hidden h) (drop_more fields i d inside)
    ∙ left_kept hidden h (get_or fields i d) (drop (i + 1) fields) (first (is_shown hidden (get_or fields i d)) (not (h && is_named (codes "content-length") (get_or fields i d))) e)
    (second (is_shown hidden (get_or fields i d)) (h && is_named (codes "content-length") (get_or fields i d)) e)
  where
    first : (a b : Bool) → (a && b) ≡ true → a ≡ true
    first true b f = refl
    first false b f = absurd cc

    second : (a b : Bool) → (a && not b) ≡ true → b ≡ false
    second true true f = absurd cc
    second true false f = refl
    second false b f = absurd cc

pub left_out_at : (hidden : List (List ℕ)) (h : Bool) (fields : List Field) (i : ℕ) (d : Field) → i < length fields
    → (is_shown hidden (get_or fields i d) && not (h && is_named (codes "content-length") (get_or fields i d))) ≡ false
    → left hidden h (drop i fields) ≡ left hidden h (drop (i + 1) fields)
left_out_at hidden h fields i d inside e =
    ap (left hidden h) (drop_more fields i d inside) ∙ by h (is_shown hidden (get_or fields i d)) (is_named (codes "content-length") (get_or fields i d)) refl refl e
  where
    by : (h s n : Bool) → is_shown hidden (get_or fields i d) ≡ s → is_named (codes "content-length") (get_or fields i d) ≡ n → (s && not (h && n)) ≡ false
        → left hidden h (get_or fields i d ∷ drop (i + 1) fields) ≡ left hidden h (drop (i + 1) fields)
    by h false n f g k = left_hidden hidden h (get_or fields i d) (drop (i + 1) fields) f
    by true true true f g k = left_again hidden (get_or fields i d) (drop (i + 1) fields) f g
    by true true false f g k = absurd cc
    by false true n f g k = absurd cc

pub left_all : (fields : List Field) → shown_fields fields ≡ left (owned_names ++ connection_options fields) false fields
unfolding shown_fields
left_all fields = refl

pub left_none : (hidden : List (List ℕ)) (h : Bool) (fields : List Field) (i : ℕ) → length fields ≤ i → left hidden h (drop i fields) ≡ []
left_none hidden true fields i past = ap (left hidden true) (drop_all i fields past)
left_none hidden false fields i past = ap (left hidden false) (drop_all i fields past)

-- one field more goes along
pub kept_step : (fields shown more : List Field) (h g : Bool) (i : ℕ) (f copy : Field) → i < length fields → f ≡ get_or fields i f
    → (is_shown (owned_names ++ connection_options fields) f && not (h && is_named (codes "content-length") f)) ≡ true
    → copy ≡ f → more ≡ shown ++ copy ∷ [] → g ≡ (h || is_named (codes "content-length") f)
    → shown_fields fields ≡ shown ++ left (owned_names ++ connection_options fields) h (drop i fields)
    → shown_fields fields ≡ more ++ left (owned_names ++ connection_options fields) g (drop (i + 1) fields)
kept_step fields shown more h g i f copy inside at e c m n inv =
    let hidden : List (List ℕ) = owned_names ++ connection_options fields in
    let test : Field → Bool = λ f. is_shown hidden f && not (h && is_named (codes "content-length") f) in
    let kept = kept_at hidden h fields i f inside (ap test (sym at) ∙ e) in
    inv
    ∙ ap (λ l. shown ++ l) (kept ∙ ap (λ d. d ∷ left hidden (h || is_named (codes "content-length") d) (drop (i + 1) fields)) (sym at))
    ∙ ap (λ b. shown ++ f ∷ left hidden b (drop (i + 1) fields)) (sym n)
    ∙ ap (λ d. shown ++ d ∷ left hidden g (drop (i + 1) fields)) (sym c)
    ∙ sym (append_assoc shown (copy ∷ []) (left hidden g (drop (i + 1) fields)))
    ∙ ap (λ l. l ++ left hidden g (drop (i + 1) fields)) (sym m)
