-- Which mutations an immediate response may bring.
use Rattle.std.proofs.Common.{refl, sym, ◌∙◌, ap, inl, inr}
use Rattle.std.proofs.lemmas.Bool.{true≢false}
use Rattle.std.specs.Prelude.{ℕ, ◌≡◌, ◌⊎◌, Bool, true, false, List, [], Option, Some, None, is_some, if◌then◌else◌, decimal}
use Rattle.ext_msgs.specs.declared.answer.HeaderMutation.{HeaderMutation}
use Rattle.ext_msgs.specs.declared.answer.Immediate.{Immediate}
use Rattle.ext_msgs.specs.declared.lists.Field.{Field}
use Rattle.header_mutation.specs.Mutated.{Outcome, Fields, Bad, Disallowed, IsFaultOf, first_bad, items, outcome, replied}
use Rattle.header_mutation.specs.declared.rules.MutFault.{MutFault}
use Rattle.header_mutation.specs.declared.rules.MutFault.TheVariants as fault
use Rattle.header_mutation.specs.declared.rules.PartKind.TheVariants.{ResponseHead}
use Rattle.http_model.specs.Wire.{reply}
use Rattle.filter_model.specs.Course.{fields_or}
use Rattle.filter_model.specs.Outgoing.{immediate_reply}

abbrev is_bad : Outcome → Bool
is_bad (Bad place) = true
is_bad _ = false

abbrev is_forbidden : Outcome → Bool
is_forbidden (Disallowed place) = true
is_forbidden _ = false

bad_there : (place : Option ℕ) (fields : List Field) → is_some place ≡ is_bad (outcome place None fields)
bad_there (Some k) fields = refl
bad_there None fields = refl

none_forbidden : (place : Option ℕ) (fields : List Field) → is_forbidden (outcome place None fields) ≡ false
none_forbidden (Some k) fields = refl
none_forbidden None fields = refl

-- any refusal is one of an invalid item
pub refused : (status : List ℕ) (m : HeaderMutation) (f : MutFault) → (f ≡ fault.Memory → ⊥) → IsFaultOf (replied status m) f → is_some (first_bad (items ResponseHead m)) ≡ true
unfolding replied
refused status m (fault.Bad place) n e = bad_there (first_bad (items ResponseHead m)) _ ∙ ap is_bad e
refused status m (fault.Disallowed place) n e = absurd (true≢false (sym (ap is_forbidden e) ∙ none_forbidden (first_bad (items ResponseHead m)) _))
refused status m fault.Memory n e = absurd (n refl)

pub not_memory : (f : MutFault) → ((n : ℕ) × (f ≡ fault.Bad n)) ⊎ ((n : ℕ) × (f ≡ fault.Disallowed n)) → f ≡ fault.Memory → ⊥
not_memory f (inl (n, q)) m = cc
not_memory f (inr (n, q)) m = cc

pub valid : (status : List ℕ) (m : HeaderMutation) (fields : List Field) → replied status m ≡ Fields fields → is_some (first_bad (items ResponseHead m)) ≡ false
unfolding replied
valid status m fields e = bad_there (first_bad (items ResponseHead m)) _ ∙ ap is_bad e

pub as_written : (to_head : Bool) (i : Immediate) (status : List ℕ) (fields : List Field) → status ≡ decimal i.code → replied status i.headers ≡ Fields fields
    → reply to_head i.code fields i.body ≡ immediate_reply to_head i
as_written to_head i status fields s e = ap (λ o. reply to_head i.code (fields_or [] o) i.body) (sym e ∙ ap (λ d. replied d i.headers) s)

-- what is made of it

pub none_of : {A : Type 0} (b : Bool) (x : A) → b ≡ true → None ≡ (if b then None else Some x)
none_of b x e = sym (ap (λ (y : Bool). if y then None else Some x) e)

pub some_of : {A : Type 0} (b : Bool) (x made : A) → b ≡ false → made ≡ x → Some made ≡ (if b then None else Some x)
some_of b x made e s = ap (λ y. Some y) s ∙ sym (ap (λ (y : Bool). if y then None else Some x) e)
