-- A head that an entry brings is chosen at once or not, as its half would choose it, told the head alone.
use Rattle.std.proofs.Common.{inl, inr, sym, ◌∙◌, ap, refl}
use Rattle.std.specs.Prelude.{ℕ, ◌≡◌, Bool, true, false, ◌&&◌, List, [], ◌∷◌, Option, Some, None, if◌then◌else◌, is_none, is_some, option_map}
use Rattle.ext_msgs.specs.declared.lists.Field.{Field}
use Rattle.http_model.specs.Reader.{Extends}
use Rattle.http_model.specs.Reads.{Original}
use Rattle.http_model.specs.declared.types.Direction.{Direction}
use Rattle.http_model.specs.declared.types.Direction.TheVariants.{Request, Response}
use Rattle.filter_model.specs.Config.{CourseConfig, FilterConfig}
use Rattle.filter_model.specs.Course.{Course, committed, head_may_go, outgoing}
use Rattle.filter_model.specs.Account.{ExchangeAccount, course, gathered, is_to_head, settled}
use Rattle.filter_model.specs.Half.{Head, called}
use Rattle.filter_model.specs.Right.{Call, Stepped, IsHistory, account}
use Rattle.filter_model.specs.Step.{is_live}
use Rattle.filter_model.specs.Told.{known, told}
use Rattle.filter_model.specs.ToldMore.{head_at, head_news}
use Rattle.filter_model.specs.View.{ViewEntry}
use Rattle.filter_model.proofs.AtRest.{Steady, asked-head, steady}
use Rattle.filter_model.proofs.GivenRight.{fits}
use Rattle.filter_model.proofs.NeverOver.{gathered_is, read_on}
use Rattle.filter_model.proofs.ReadAlong.{reads_on}
use Rattle.filter_model.proofs.ToldEntry.{extends_in, rested}
use Rattle.filter_model.proofs.ToldSame.{kept_head}

some_not_none : (h : List Field) → Some h ≡ None → ⊥
some_not_none h e = cc

-- no head was read
unread_head : {A B : Type 0} (x : Option B) (b : Bool) (f : A → B) → is_some (if is_none x && b then option_map f None else x) ≡ is_some x
unread_head None true f = refl
unread_head None false f = refl
unread_head (Some y) b f = refl

-- one was read
read_head : {A B : Type 0} (x : Option B) (b : Bool) (f g : A → B) (h : A)
    → is_some (if is_none x && b then option_map f (Some h) else x) ≡ is_some (if is_none x && b then option_map g (Some h) else x)
read_head None true f g h = refl
read_head None false f g h = refl
read_head (Some y) b f g h = refl

read_now : (c : CourseConfig) (d : Direction) (w : Course) (o : Original) (n : ℕ) (h : List Field) → o.head ≡ Some h
    → is_some (committed c d (read_on w o n)).head ≡ is_some (told c d (Head h o.length ∷ []) (known w)).head
unfolding committed
read_now c d w o n h i =
    let x : Course = called (Head h o.length) (known w) in
    ap (λ q. is_some (committed c d (read_on w (record o { head = q }) n)).head) i
    ∙ read_head w.head (head_may_go x) (outgoing c d (read_on w (record o { head = Some h }) n)) (outgoing c d x) h
    ∙ ap is_some (sym (asked-head c d (committed c d x)))

-- behind the head nothing new lets it go
read_before : (c : CourseConfig) (d : Direction) (w : Course) (o : Original) (n : ℕ) (h : List Field) → w.original.head ≡ Some h → (w.head ≡ None → head_may_go w ≡ true → w.original.head ≡ None)
    → Extends w.original o → is_some (committed c d (read_on w o n)).head ≡ is_some w.head
unfolding committed
read_before c d w o n h m k (inl e) =
    ap (λ q. is_some (committed c d (read_on w q n)).head) e
    ∙ ap is_some (kept_head w.head (head_may_go w) (outgoing c d (read_on w w.original n)) w.original.head k)
read_before c d w o n h m k (inr (inl z)) = absurd (some_not_none h (sym m ∙ z))
read_before c d w o n h m k (inr (inr l)) =
    let same : head_may_go (read_on w o n) ≡ head_may_go w =
    ap (λ q. head_may_go (read_on w (record o { head = q }) n)) l.head
    ∙ ap (λ q. head_may_go (read_on w (record o { head = w.original.head; length = q }) n)) l.length in
    ap is_some (kept_head w.head (head_may_go (read_on w o n)) (outgoing c d (read_on w o n)) o.head (λ x y. l.head ∙ k x (sym same ∙ y)))

chosen_as_told : (c : CourseConfig) (d : Direction) (w : Course) (o : Original) (n : ℕ) → (w.head ≡ None → head_may_go w ≡ true → w.original.head ≡ None) → Extends w.original o
    → is_some (committed c d (read_on w o n)).head ≡ is_some (told c d (head_news w.original o) (known w)).head
unfolding committed
chosen_as_told c d w o n k x = by w.original.head o.head refl refl
  where
    by : (p q : Option (List Field)) → w.original.head ≡ p → o.head ≡ q → is_some (committed c d (read_on w o n)).head ≡ is_some (told c d (head_at p q o.length) (known w)).head
    by None None m i =
        ap (λ q. is_some (committed c d (read_on w (record o { head = q }) n)).head) i
        ∙ unread_head w.head (head_may_go (read_on w (record o { head = None }) n)) (outgoing c d (read_on w (record o { head = None }) n))
    by None (Some h) m i = read_now c d w o n h i
    by (Some h) q m i = read_before c d w o n h m k x

settled_in : (c : FilterConfig) (d : Direction) (g : ExchangeAccount) → (course d (settled c g)).head ≡ (committed c.course d (course d g)).head
unfolding settled
settled_in c Request g = refl
settled_in c Response g = refl

pub cut_head : (c : FilterConfig) (h : List Call) (e : ViewEntry) → IsHistory c (Stepped e ∷ h) → is_live (account c h).fate ≡ true → (d : Direction)
    → is_some (course d (settled c (gathered e (account c h)))).head
    ≡ is_some (told c.course d (head_news (course d (account c h)).original (course d (gathered e (account c h))).original) (known (course d (account c h)))).head
cut_head c h e y l d =
    let a : ExchangeAccount = account c h in
    let s : Steady c a = steady c h y.0 in
    let v : Course = course d (gathered e a) in
    ap is_some (settled_in c d (gathered e a))
    ∙ ap (λ w. is_some (committed c.course d w).head) (gathered_is d e a)
    ∙ chosen_as_told c.course d (course d a) v.original v.sent (rested d c a s l).chosen
    (extends_in d e a (reads_on c e a s.along.read s.along.held (fits c h e y.1)))

pub cut_to_head : (c : FilterConfig) (g : ExchangeAccount) → is_to_head (settled c g) ≡ is_to_head g
unfolding settled committed
cut_to_head c g = refl
