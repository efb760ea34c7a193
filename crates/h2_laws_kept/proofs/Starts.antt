-- A session begins as its account does.
use Rattle.std.proofs.Common.{◌≡◌, ℕ, ◌≤◌, ◌<◌, ◌%◌, Bool, true, false, ◌&&◌, ◌==◌, [], refl, sym, ◌∙◌, ap, subst, if◌then◌else◌, arith, nat_le, nat_lt}
use Rattle.std.proofs.lemmas.Bool.Decides.{nat_tests}
use Rattle.std.proofs.lemmas.List.Elements.{All-nil}
use Rattle.h2_model.specs.History.{start}
use Rattle.h2_model.specs.State.{State, seen}
use Rattle.h2_laws_log.specs.Calling.{starting}
use Rattle.h2_laws_log.proofs.Start.{start-seen, start-valid, start-sound, start-headless}
use Rattle.h2_laws_log.proofs.Parts.{part-start}
use Rattle.h2_laws_log.proofs.RoomBegins.{start-counted}
use Rattle.h2_model.specs.Known.{HasOpened}
use Rattle.h2_laws_kept.specs.Kept.{Kept, IsNew}
use Rattle.h2_laws_kept.specs.Rooms.{IsRoomy}
use Rattle.h2_laws_kept.specs.StandsFor.{AreBelow, IsSound, Lacks, ReadsInput, Holds}
use Rattle.h2_laws_kept.proofs.Heading.{start-heads}
use Rattle.h2_laws_kept.proofs.Holding.{tabled}

new-sound : (client : Bool) → IsSound (start client)
unfolding start
new-sound client = record {
  valid = start-valid client;
  calls = start-sound client;
  block = refl;
  counted = start-counted client;
  part = part-start client;
  heads = start-heads client;
}

no-number : (id : ℕ) → ((id % 2 == 1) && nat_lt id 1 && true) ≡ false
no-number id = by (id % 2 == 1) refl (nat_lt id 1) refl
  where
    by : (o : Bool) → (id % 2 == 1) ≡ o → (l : Bool) → nat_lt id 1 ≡ l → (o && l && true) ≡ false
    by true eo true el = absurd (grind (arith, nat_tests, eo, el))
    by true eo false el = refl
    by false eo true el = refl
    by false eo false el = refl

new-numbers : (client : Bool) → HasOpened (record { next = 1; gaps = [] }) (start client)
unfolding start
new-numbers client = record {
  known = no-number;
  above = λ id. ap (λ z. (id % 2 == 1) && z) (one id);
  last = refl;
}
  where
    one : (id : ℕ) → nat_le 1 id ≡ nat_lt 0 id
    one id = refl

new-lacks : (client : Bool) (k : Kept) → IsNew client k → Lacks k (start client)
unfolding start
new-lacks client k n = record {
  known = subst (λ m. HasOpened m (start client)) (sym n.numbers) (new-numbers client);
  gaps = subst AreBelow (sym n.numbers) (All-nil (λ gap. gap.last < 1));
  headless = λ id. start-headless client id ∙ by k.client (nat_le k.headless id);
  odd = ap (λ z. z % 2) n.headless;
  within = λ c. rw (n.headless, n.numbers) (omega arith);
  whole = λ c. ap (λ z. z.gaps) n.numbers;
  count = λ c. ap (λ z. z.next) n.numbers;
}
  where
    by : (x y : Bool) → false ≡ (x && y && false)
    by true true = refl
    by true false = refl
    by false y = refl

new-reads : (client : Bool) (k : Kept) → IsNew client k → ReadsInput k (start client)
unfolding start
new-reads client k n = record {
  greeted = by client ∙ ap (λ z. z == 24) (sym n.greeted);
  within = rw n.greeted (within client);
  preface = λ g. rw (n.greeted, g) refl;
  frame = λ g. n.reader;
  begun = λ g. n.reader;
}
  where
    by : (c : Bool) → c ≡ ((if c then 24 else 0) == 24)
    by true = refl
    by false = refl

    within : (c : Bool) → (if c then 24 else 0) ≤ 24
    within true = omega arith
    within false = omega arith

new-roomy : (client : Bool) (k : Kept) → IsNew client k → IsRoomy k
unfolding starting
new-roomy client k n = record {
  queue = rw n.state (omega arith);
  held = λ c. rw n.state (omega arith);
  reserve = λ c. omega (arith, n.room (sym n.role ∙ c));
  held_reserve = λ c. omega (arith, n.held_room (sym n.role ∙ c));
  table = λ c. omega (arith, n.table_room (sym n.role ∙ c));
}

pub new-held : (client : Bool) (k : Kept) → IsNew client k → Holds k (start client)
unfolding start
new-held client k n = record {
  sound = new-sound client;
  state = tabled k.state (seen (start client)) begun;
  table = λ v. ap (λ (s : State). s.table) begun;
  role = n.role;
  streams = new-lacks client k n;
  reads = λ v. new-reads client k n;
  decodes = λ v. n.fault;
  encodes = n.entries;
  room = new-roomy client k n;
}
  where
    begun : k.state ≡ seen (start client)
    begun = n.state ∙ sym (start-seen client)
