-- Once a side is done it stays so.
use Rattle.std.proofs.Common.{inl, inr, sym, ◌∙◌, ap, append-nil, refl}
use Rattle.std.specs.Prelude.{ℕ, ◌≡◌, ◌⊎◌, true, false, ◌&&◌, List, [], ◌∷◌, ◌++◌, length, Option, Some, None, nat_le, bytes_eq}
use Rattle.http_model.specs.Wire.{head_bytes}
use Rattle.http_model.specs.declared.types.Direction.{Direction}
use Rattle.http_model.specs.declared.types.Direction.TheVariants.{Request, Response}
use Rattle.filter_model.specs.Config.{FilterConfig}
use Rattle.filter_model.specs.Course.{Changed, Outgoing, changed}
use Rattle.filter_model.specs.Grown.{Grown}
use Rattle.filter_model.specs.Account.{ExchangeAccount, Fate, Live, Left, Replied, Aborted, course, front, to, is_given, is_given_at}
use Rattle.filter_model.specs.Step.{after, step, is_live}
use Rattle.filter_model.specs.View.{ViewEntry, Given}
use Rattle.filter_model.specs.Right.{Call, Stepped, Took, Nexted, Failed, IsHistory, account, is_done, is_done_at, is_reply_given}
use Rattle.filter_model.specs.declared.calls.Side.{Side}
use Rattle.filter_model.specs.declared.calls.Side.TheVariants.{Client, Upstream}
use Rattle.filter_model.specs.declared.calls.Taken.TheVariants.{Piece}
use Rattle.filter_model.proofs.EachStep.{fate_stays}
use Rattle.filter_model.proofs.Ended.{changed-head}
use Rattle.filter_model.proofs.GivenRight.{StepGrown, FateGrown, step_grown, step-given, gives, no_given, along, fits}
use Rattle.filter_model.proofs.CourseGrows.{and_first}

clash : true ≡ false → ⊥
clash e = cc

-- what was given whole stays so, while the message stays as it is and nothing more is given
stays_at : (d : Direction) (o o' : Option Outgoing) (m m' : Changed) (f f' g g' : List ℕ) → o ≡ m.head → o' ≡ m'.head → Grown m m' → (f' ≡ f) ⊎ (m.head ≡ None) → g' ≡ g
    → is_given_at d o m f g ≡ true → is_given_at d o' m' f' g' ≡ true
stays_at d None o' m m' f f' g g' i j k l e t = absurd cc
stays_at d (Some h) o' m m' f f' g g' i j (inl n) l e t = absurd (none_or_some h (sym (i ∙ n)))
  where
    none_or_some : (h : Outgoing) → None ≡ Some h → ⊥
    none_or_some h e = cc
stays_at d (Some h) o' m m' f f' g g' i j (inr k) (inr n) e t = absurd (none_or_some h (sym (i ∙ n)))
  where
    none_or_some : (h : Outgoing) → None ≡ Some h → ⊥
    none_or_some h e = cc
stays_at d (Some h) o' m m' f f' g g' i j (inr (inr k)) (inl l) e t =
    absurd (clash (sym (and_first m.ended _ (and_first (m.ended && nat_le (length (f ++ head_bytes d h.fields h.framing)) (length g)) _ t)) ∙ k.unended))
stays_at d (Some h) o' m m' f f' g g' i j (inr (inl k)) (inl l) e t =
    ap (λ x. is_given_at d x m' f' g') (j ∙ ap (λ x. x.head) k ∙ sym i)
    ∙ ap (λ x. is_given_at d (Some h) x f' g') k
    ∙ ap (λ x. is_given_at d (Some h) m x g') l
    ∙ ap (λ x. is_given_at d (Some h) m f x) e ∙ t

head_some : (d : Direction) (o : Option Outgoing) (m : Changed) (f g : List ℕ) → o ≡ None → is_given_at d o m f g ≡ true → ⊥
head_some d None m f g i t = clash (sym t)
head_some d (Some h) m f g i t = no_head h (sym i)
  where
    no_head : (h : Outgoing) → None ≡ Some h → ⊥
    no_head h e = cc

given_stays : (c : FilterConfig) (e : ViewEntry) (a : ExchangeAccount) (d : Direction) → StepGrown c a (step c e a) → gives e d ≡ [] → is_given c a d ≡ true → is_given c (step c e a) d ≡ true
unfolding is_given
given_stays c e a Request g n t =
    stays_at Request (course Request a).head (course Request (step c e a)).head (changed c.course Request (course Request a)) (changed c.course Request (course Request (step c e a)))
    [] [] a.request.given (step c e a).request.given (changed-head c.course Request (course Request a)) (changed-head c.course Request (course Request (step c e a))) g.request (inl refl)
    (step-given c e Request a ∙ ap (λ l. a.request.given ++ l) n ∙ append-nil a.request.given) t
given_stays c e a Response g n t =
    stays_at Response (course Response a).head (course Response (step c e a)).head (changed c.course Response (course Response a)) (changed c.course Response (course Response (step c e a)))
    (front Response a) (front Response (step c e a)) a.response.given (step c e a).response.given
    (changed-head c.course Response (course Response a)) (changed-head c.course Response (course Response (step c e a))) g.response (front_or g.front)
    (step-given c e Response a ∙ ap (λ l. a.response.given ++ l) n ∙ append-nil a.response.given) t
  where
    front_or : (front Response (step c e a) ≡ front Response a) ⊎ ((changed c.course Response (course Response a)).head ≡ None × front Response a ≡ [])
        → (front Response (step c e a) ≡ front Response a) ⊎ ((changed c.course Response (course Response a)).head ≡ None)
    front_or (inl x) = inl x
    front_or (inr x) = inr x.0

reply_stays : (c : FilterConfig) (e : ViewEntry) (a : ExchangeAccount) (s : Side) (r r' : List ℕ) → StepGrown c a (step c e a) → gives e (to s) ≡ [] → r' ≡ r → front Response (step c e a) ≡ front Response a
    → is_reply_given c a r s ≡ true → is_reply_given c (step c e a) r' s ≡ true
reply_stays c e a Client r r' g n i j t =
    ap (λ l. bytes_eq l (front Response (step c e a) ++ r')) (step-given c e Response a ∙ ap (λ l. a.response.given ++ l) n ∙ append-nil a.response.given)
    ∙ ap (λ l. bytes_eq a.response.given (l ++ r')) j ∙ ap (λ l. bytes_eq a.response.given (front Response a ++ l)) i ∙ t
reply_stays c e a Upstream r r' g n i j t = given_stays c e a Request g n t

-- a reply comes only before the response's head, and so not to a client that is done
late_reply : (c : FilterConfig) (e : ViewEntry) (a : ExchangeAccount) (s : Side) (r : List ℕ) → StepGrown c a (step c e a) → gives e (to s) ≡ [] → (changed c.course Response (course Response a)).head ≡ None
    → is_given c a (to s) ≡ true → is_reply_given c (step c e a) r s ≡ true
unfolding is_given
late_reply c e a Client r g n k t = absurd (head_some Response (course Response a).head _ _ _ (changed-head c.course Response (course Response a) ∙ k) t)
late_reply c e a Upstream r g n k t = given_stays c e a Request g n t

done_by : (c : FilterConfig) (e : ViewEntry) (a : ExchangeAccount) (s : Side) → StepGrown c a (step c e a) → gives e (to s) ≡ [] → (f f' : Fate) → FateGrown c a (step c e a) f f' → (is_live f ≡ false → f' ≡ f)
    → is_done_at c a s f ≡ true → is_done_at c (step c e a) s f' ≡ true
done_by c e a s g n Left f' k l t = ap (is_done_at c (step c e a) s) (l refl)
done_by c e a s g n (Replied r) (Replied r') k l t = reply_stays c e a s r r' g n k.0 k.1 t
done_by c e a s g n (Replied r) Live k l t = absurd k
done_by c e a s g n (Replied r) Left k l t = absurd k
done_by c e a s g n (Replied r) Aborted k l t = absurd k
done_by c e a s g n Aborted f' k l t = ap (is_done_at c (step c e a) s) (l refl) ∙ given_stays c e a (to s) g n t
done_by c e a s g n Live Live k l t = given_stays c e a (to s) g n t
done_by c e a s g n Live Left k l t = refl
done_by c e a s g n Live Aborted k l t = given_stays c e a (to s) g n t
done_by c e a s g n Live (Replied r) k l t = late_reply c e a s r g n k t

done_step : (c : FilterConfig) (e : ViewEntry) (a : ExchangeAccount) (s : Side) → StepGrown c a (step c e a) → gives e (to s) ≡ [] → is_done c a s ≡ true → is_done c (step c e a) s ≡ true
done_step c e a s g n t = done_by c e a s g n a.fate (step c e a).fate g.fate (λ l. fate_stays c e a l) t

pub done_stays : (c : FilterConfig) (call : Call) (h : List Call) → IsHistory c (call ∷ h) → (s : Side) → is_done c (account c h) s ≡ true → is_done c (account c (call ∷ h)) s ≡ true
unfolding after
done_stays c (Stepped e) h v s t = done_step c e (account c h) s (step_grown c e (account c h) (along c h v.0) (fits c h e v.1)) (no_given c e h v.1 (to s)) t
done_stays c (Took Client (Piece bytes)) h v Client t = absurd (clash (sym t ∙ v.1.0))
done_stays c (Took Upstream (Piece bytes)) h v Upstream t = absurd (clash (sym t ∙ v.1.0))
done_stays c (Took Client (Piece bytes)) h v Upstream t = done_step c (Given Client bytes) (account c h) Upstream (step_grown c (Given Client bytes) (account c h) (along c h v.0) tt) refl t
done_stays c (Took Upstream (Piece bytes)) h v Client t = done_step c (Given Upstream bytes) (account c h) Client (step_grown c (Given Upstream bytes) (account c h) (along c h v.0) tt) refl t
done_stays c (Took side _) h v s t = t
done_stays c (Nexted n) h v s t = t
done_stays c Failed h v s t = t
