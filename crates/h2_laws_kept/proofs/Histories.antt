-- A session stands for the history of one more call.
use Rattle.std.proofs.Common.{◌≡◌, ◌≤◌, List, [], ◌∷◌, sym, ◌∙◌, subst}
use Rattle.h2_model.specs.History.{Call, account, called}
use Rattle.h2_model.specs.Calls.{Role, May, now}
use Rattle.h2_laws_kept.specs.Kept.{Kept, IsNew, IsSame}
use Rattle.h2_laws_kept.specs.StandsFor.{Holds, StandsFor}
use Rattle.h2_laws_kept.proofs.Holding.{still-holds}
use Rattle.h2_laws_kept.proofs.Roominess.{roomy-kept}
use Rattle.h2_laws_kept.proofs.Starts.{new-held}

pub begins : (r : Role) (k : Kept) → IsNew r.client k → k.streams ≡ r.streams → StandsFor r k []
unfolding account
begins r k n s = record { history = tt; role = n.role; reserved = s; holds = new-held r.client k n }

pub one-more : (r : Role) (k l : Kept) (c : Call) (h : List Call) → StandsFor r k h → May r c (now r h) → l.client ≡ k.client
    → l.streams ≡ k.streams → Holds l (called c (now r h)) → StandsFor r l (c ∷ h)
unfolding account
one-more r k l c h s m client streams x = record {
  history = (s.history, m);
  role = client ∙ s.role;
  reserved = streams ∙ s.reserved;
  holds = x;
}

-- a call that changes nothing of the account
pub one-idle : (r : Role) (k l : Kept) (c : Call) (h : List Call) → StandsFor r k h → May r c (now r h)
    → called c (now r h) ≡ now r h → l.client ≡ k.client → l.streams ≡ k.streams → Holds l (now r h) → StandsFor r l (c ∷ h)
one-idle r k l c h s m e client streams x = one-more r k l c h s m client streams (subst (Holds l) (sym e) x)

-- a call that failed
pub none-more : (r : Role) (k l : Kept) (h : List Call) → StandsFor r k h → l.state ≡ k.state → IsSame k l → k.room ≤ l.room
    → k.held_room ≤ l.held_room → k.table_room ≤ l.table_room → StandsFor r l h
none-more r k l h s e same q p t = record {
  history = s.history;
  role = same.client ∙ s.role;
  reserved = same.streams ∙ s.reserved;
  holds = still-holds k l (now r h) s.holds e same (roomy-kept k l s.holds.room e same.client same.streams q p t);
}

pub role-is : (r : Role) (k : Kept) (h : List Call) → StandsFor r k h → (now r h).client ≡ r.client
role-is r k h s = sym s.holds.role ∙ s.role
