-- Whether the response's head goes by the time a cut counts, by what its half says.
use Rattle.std.proofs.Common.{refl, sym, ◌∙◌, ap}
use Rattle.std.specs.Prelude.{◌≡◌, Bool, true, false, ◌&&◌, List, [], ◌∷◌, Option, Some, None, if◌then◌else◌, is_none, is_some, option_map}
use Rattle.std.specs.Option.{option_map as mapped}
use Rattle.ext_msgs.specs.declared.lists.Field.{Field}
use Rattle.http_model.specs.Reads.{Original}
use Rattle.http_model.specs.declared.types.Direction.{Direction}
use Rattle.http_model.specs.declared.types.Direction.TheVariants.{Response}
use Rattle.http_model.specs.declared.types.Length.{Length}
use Rattle.filter_model.specs.Account.{ExchangeAccount, course, gathered, settled}
use Rattle.filter_model.specs.Config.{CourseConfig, FilterConfig}
use Rattle.filter_model.specs.Course.{Course, asked, committed, head_may_go, one_asked, outgoing}
use Rattle.filter_model.specs.Half.{Head, called}
use Rattle.filter_model.specs.Right.{Call, IsHistory, Stepped, account}
use Rattle.filter_model.specs.Sides.{IsReadOf}
use Rattle.filter_model.specs.Step.{is_live}
use Rattle.filter_model.specs.Told.{known, told}
use Rattle.filter_model.specs.ToldMore.{head_at, head_news}
use Rattle.filter_model.specs.View.{ViewEntry}
use Rattle.filter_model.specs.declared.calls.Side.TheVariants.{Client}
use Rattle.filter_model.proofs.CutHead.{cut_head}
use Rattle.h1_read.specs.declared.message.Message.{Message}
use Rattle.h1_message.specs.Source.{IsNews}
use Rattle.h1_message.specs.declared.news.News.{News}
use Rattle.exchange.proofs.ReadingSides.{other_same}

no_head_news : (h : Option (List Field)) (n : Length) → head_at h h n ≡ []
no_head_news None n = refl
no_head_news (Some x) n = refl

-- of an entry of the client, as before
pub client_chosen : (c : FilterConfig) (h : List Call) (e : ViewEntry) → IsHistory c (Stepped e ∷ h) → IsReadOf Client e → is_live (account c h).fate ≡ true
    → is_some (course Response (account c h)).head ≡ is_some (course Response (settled c (gathered e (account c h)))).head
client_chosen c h e y r l =
    let a : ExchangeAccount = account c h in
    sym (cut_head c h e y l Response
    ∙ ap (λ w. is_some (told c.course Response (head_news (course Response a).original w.original) (known (course Response a))).head) (other_same Client e a r)
    ∙ ap (λ l. is_some (told c.course Response l (known (course Response a))).head) (no_head_news (course Response a).original.head (course Response a).original.length))

-- once it was chosen it stays
stays_chosen : {A : Type 0} (x : Option A) (b : Bool) (y : Option A) → is_some x ≡ true → is_some (if is_none x && b then y else x) ≡ true
stays_chosen (Some v) b y e = refl
stays_chosen None b y e = absurd cc

chosen_now : {A B : Type 0} (x : Option B) (b : Bool) (f : A → B) (h : A) → is_some x ≡ false → is_some (if is_none x && b then option_map f (Some h) else x) ≡ b
chosen_now (Some v) b f h e = absurd cc
chosen_now None true f h e = refl
chosen_now None false f h e = refl

told_stays : (c : CourseConfig) (d : Direction) (w : Course) (p q : Option (List Field)) (n : Length) → is_some w.head ≡ true → is_some (told c d (head_at p q n) (known w)).head ≡ true
unfolding asked one_asked committed
told_stays c d w None None n e = e
told_stays c d w None (Some h) n e = stays_chosen w.head (head_may_go (called (Head h n) (known w))) (option_map (outgoing c d (called (Head h n) (known w))) (Some h)) e
told_stays c d w (Some h) q n e = e

pub upstream_chosen : (c : FilterConfig) (h : List Call) (e : ViewEntry) → IsHistory c (Stepped e ∷ h) → is_live (account c h).fate ≡ true → is_some (course Response (account c h)).head ≡ true
    → true ≡ is_some (course Response (settled c (gathered e (account c h)))).head
upstream_chosen c h e y l i =
    let a : ExchangeAccount = account c h in
    let g : ExchangeAccount = gathered e a in
    sym (cut_head c h e y l Response
    ∙ told_stays c.course Response (course Response a) (course Response a).original.head (course Response g).original.head (course Response g).original.length i)

-- it may be chosen with the head that comes
told_goes : (c : CourseConfig) (d : Direction) (w : Course) (o : Original) (n : News) (x : Option Message) → IsNews w.original o n → n.head ≡ x → is_some w.head ≡ false
    → (p q : Option (List Field)) → w.original.head ≡ p → o.head ≡ q → is_some (told c d (head_at p q o.length) (known w)).head ≡ (is_some x && head_may_go (record (known w) { original = o }))
unfolding asked one_asked committed
told_goes c d w o n x y k e (Some h) q m i = by x (sym k ∙ y.once (ap is_some m))
  where
    by : (x : Option Message) → x ≡ None → is_some w.head ≡ (is_some x && head_may_go (record (known w) { original = o }))
    by None z = e
    by (Some v) z = absurd cc
told_goes c d w o n x y k e None None m i = by x (ap (mapped (λ (v : Message). v.head)) (sym k) ∙ y.head m ∙ i)
  where
    by : (x : Option Message) → mapped (λ (v : Message). v.head) x ≡ None → is_some w.head ≡ (is_some x && head_may_go (record (known w) { original = o }))
    by None z = e
    by (Some v) z = absurd cc
told_goes c d w o n x y k e None (Some h) m i = by x (ap (mapped (λ (v : Message). v.head)) (sym k) ∙ y.head m ∙ i)
  where
    v : Course
    v = called (Head h o.length) (known w)

    by : (x : Option Message) → mapped (λ (v : Message). v.head) x ≡ Some h
        → is_some (if is_none w.head && head_may_go v then option_map (outgoing c d v) (Some h) else w.head) ≡ (is_some x && head_may_go (record (known w) { original = o }))
    by None z = absurd cc
    by (Some u) z =
        chosen_now w.head (head_may_go v) (outgoing c d v) h e
        ∙ sym (ap (λ q. head_may_go (record (known w) { original = record o { head = q } })) i)

pub upstream_goes : (c : FilterConfig) (h : List Call) (e : ViewEntry) (n : News) → IsHistory c (Stepped e ∷ h) → is_live (account c h).fate ≡ true → is_some (course Response (account c h)).head ≡ false
    → IsNews (course Response (account c h)).original (course Response (gathered e (account c h))).original n
    → (is_some n.head && head_may_go (record (known (course Response (account c h))) { original = (course Response (gathered e (account c h))).original }))
    ≡ is_some (course Response (settled c (gathered e (account c h)))).head
upstream_goes c h e n y l i z =
    let a : ExchangeAccount = account c h in
    let g : ExchangeAccount = gathered e a in
    sym (cut_head c h e y l Response
    ∙ told_goes c.course Response (course Response a) (course Response g).original n n.head z refl i (course Response a).original.head (course Response g).original.head refl refl)
