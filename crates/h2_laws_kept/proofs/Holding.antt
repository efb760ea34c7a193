-- What a call leaves: the parts hold the account after it, where the call says what becomes of the state.
use Rattle.std.proofs.Common.{◌≡◌, ℕ, Bool, true, List, Option, Some, None, refl, sym, ◌∙◌, ap, subst, ◌&&◌, ◌==◌, ◌%◌, nat_le, nat_lt, take}
use Rattle.std.specs.List.{list_any}
use Rattle.hpack_core.specs.Tables as hpack
use Rattle.h2_model.specs.Log.{violation}
use Rattle.h2_model.specs.Streams.{opened, greatest}
use Rattle.h2_model.specs.Blocks.{OpenBlock, open_block}
use Rattle.h2_model.specs.Account.{Account, is_headless}
use Rattle.h2_model.specs.History.{next_number, preface}
use Rattle.h2_model.specs.State.{State, seen}
use Rattle.h2_laws_log.specs.Steps.{is_block_opened}
use Rattle.h2_laws_log.specs.Becomes.{Becomes}
use Rattle.h2_laws_log.specs.Feeding.{KeepsInput, KeepsPart}
use Rattle.h2_laws_log.specs.Rooms.{Counted}
use Rattle.h2_model.specs.Known.{HasOpened}
use Rattle.h2_laws_kept.specs.Kept.{Kept, IsSame, IsBeside, lacks_head}
use Rattle.h2_laws_kept.specs.Rooms.{IsRoomy}
use Rattle.h2_laws_kept.specs.StandsFor.{AreBelow, KnowsHeads, Lacks, ReadsInput, Holds}

-- The account

pub block-opened : (a b : Account) → opened b.log ≡ opened a.log → open_block b.log ≡ open_block a.log
    → is_block_opened a (open_block a.log) ≡ true → is_block_opened b (open_block b.log) ≡ true
block-opened a b o e h = rw e (by (open_block a.log) h)
  where
    by : (x : Option OpenBlock) → is_block_opened a x ≡ true → is_block_opened b x ≡ true
    by None h = refl
    by (Some x) h = ap (list_any (λ n. n == x.stream)) o ∙ h

-- what a state keeps of the account
pub seen-violation : (a : Account) → (seen a).violation ≡ violation a.log
unfolding seen
seen-violation a = refl

-- The state

-- what it equals, with a decoder's table of its own
pub tabled : (s t : State) → s ≡ t → s ≡ record t { table = s.table }
tabled s t e = e ∙ ap (λ x. record t { table = x }) (sym (ap (λ (x : State). x.table) e))

-- all of it, while nothing was violated
pub state-sound : (k : Kept) (a : Account) → Holds k a → violation a.log ≡ None → k.state ≡ seen a
state-sound k a h v = h.state ∙ ap (λ t. record (seen a) { table = t }) (h.table v)

-- a change that neither reads nor writes the decoder's table
abbrev pub SparesTable : (State → State) → Type 0
SparesTable move = (t : hpack.TableState) (s : State) → move (record s { table = t }) ≡ record (move s) { table = t }

-- What is kept beside the state

pub numbers-kept : (k l : Kept) (a b : Account) → l.numbers ≡ k.numbers → opened b.log ≡ opened a.log → HasOpened k.numbers a
    → HasOpened l.numbers b
numbers-kept k l a b n o h = subst (λ m. HasOpened m b) (sym n) (record {
  known = λ id. h.known id ∙ sym (ap (list_any (λ m. m == id)) o);
  above = λ id. h.above id ∙ sym (ap (λ ids. (id % 2 == 1) && nat_lt (greatest ids) id) o);
  last = h.last ∙ sym (ap greatest o);
})

pub lacks-as : (k l : Kept) (a b : Account) → l.client ≡ k.client → l.numbers ≡ k.numbers → l.headless ≡ k.headless
    → opened b.log ≡ opened a.log → ((id : ℕ) → is_headless b id ≡ is_headless a id) → Lacks k a → Lacks l b
lacks-as k l a b s n m o e h = record {
  known = numbers-kept k l a b n o h.known;
  gaps = subst AreBelow (sym n) h.gaps;
  headless = λ id. e id ∙ h.headless id ∙ (λ i. sym s i && nat_le (sym m i) id && list_any (λ x. x == id) (sym o i));
  odd = ap (λ x. x % 2) m ∙ h.odd;
  within = λ c. rw (m, n) (h.within (sym s ∙ c));
  whole = λ c. ap (λ x. x.gaps) n ∙ h.whole (sym s ∙ c);
  count = λ c. ap (λ x. x.next) n ∙ h.count (sym s ∙ c) ∙ numbered;
}
  where
    numbered : next_number a ≡ next_number b
    numbered = rw o refl

pub lacks-kept : (k l : Kept) (a b : Account) → IsSame k l → opened b.log ≡ opened a.log
    → ((id : ℕ) → is_headless b id ≡ is_headless a id) → Lacks k a → Lacks l b
lacks-kept k l a b s = lacks-as k l a b s.client s.numbers s.headless

-- what neither a call nor a frame changes, beside the state, the numbers, the decoder's fault and the first stream without
-- a head
pub record IsOutside (k l : Kept) : Type 0 where
  pub client : l.client ≡ k.client
  pub streams : l.streams ≡ k.streams
  pub greeted : l.greeted ≡ k.greeted
  pub reader : l.reader ≡ k.reader
  pub entries : l.entries ≡ k.entries

pub outside : (k l : Kept) → IsBeside k l → IsOutside k l
outside k l s = record {
  client = s.client;
  streams = s.streams;
  greeted = s.greeted;
  reader = s.reader;
  entries = s.entries;
}

pub beside : (k l : Kept) → IsSame k l → IsBeside k l
beside k l s = record {
  client = s.client;
  streams = s.streams;
  greeted = s.greeted;
  reader = s.reader;
  fault = s.fault;
  entries = s.entries;
}

pub reads-kept : (k l : Kept) (a b : Account) → IsOutside k l → KeepsInput a b → ReadsInput k a → ReadsInput l b
reads-kept k l a b s i h = record {
  greeted = i.greeted ∙ h.greeted ∙ ap (λ n. n == 24) (sym s.greeted);
  within = rw s.greeted h.within;
  preface = λ g. i.rest ∙ h.preface (sym i.greeted ∙ g) ∙ ap (λ n. take n preface) (sym s.greeted);
  frame = λ g. s.reader ∙ h.frame (sym i.greeted ∙ g) ∙ sym i.rest;
  begun = λ g. s.reader ∙ h.begun (sym i.greeted ∙ g);
}

-- A call

-- what it leaves of the account
pub record Leaves (a b : Account) : Type 0 where
  pub client : b.client ≡ a.client
  pub input : KeepsInput a b
  pub part : KeepsPart b
  pub counted : Counted b
  pub heads : KnowsHeads b
  pub block : open_block b.log ≡ open_block a.log
  pub sound : violation b.log ≡ None → violation a.log ≡ None

pub holding-on : (k l : Kept) (a b : Account) (ids : List ℕ) (lacks : ℕ → Bool) (st : State) → Holds k a → Becomes b ids lacks st
    → l.state ≡ record st { table = l.state.table } → (violation b.log ≡ None → l.state.table ≡ st.table)
    → (violation b.log ≡ None → l.fault ≡ None) → IsOutside k l → Leaves a b → is_block_opened b (open_block b.log) ≡ true
    → Lacks l b → IsRoomy l → Holds l b
holding-on k l a b ids lacks st h t e d f s v o n r = record {
  sound = record {
    valid = t.valid;
    calls = t.sound;
    block = o;
    counted = v.counted;
    part = v.part;
    heads = v.heads;
  };
  state = e ∙ ap (λ (x : State). record x { table = l.state.table }) (sym t.state);
  table = λ q. d q ∙ ap (λ (x : State). x.table) (sym t.state);
  role = s.client ∙ h.role ∙ sym v.client;
  streams = n;
  reads = λ q. reads-kept k l a b s v.input (h.reads (v.sound q));
  decodes = f;
  encodes = s.entries ∙ h.encodes;
  room = r;
}

-- one that changes the state but for the decoder's table
pub moving : (k l : Kept) (a b : Account) (ids : List ℕ) (lacks : ℕ → Bool) (move : State → State) → SparesTable move → Holds k a
    → Becomes b ids lacks (move (seen a)) → l.state ≡ move k.state → IsBeside k l → Leaves a b
    → is_block_opened b (open_block b.log) ≡ true → Lacks l b → IsRoomy l → Holds l b
moving k l a b ids lacks move m h t e s v o n r =
    holding-on k l a b ids lacks (move (seen a)) h t (tabled l.state (record (move (seen a)) { table = k.state.table }) moved)
    (λ q. ap (λ (x : State). x.table) (e ∙ ap move (state-sound k a h (v.sound q)))) (λ q. s.fault ∙ h.decodes (v.sound q))
    (outside k l s) v o n r
  where
    moved : l.state ≡ record (move (seen a)) { table = k.state.table }
    moved = e ∙ ap move h.state ∙ m k.state.table (seen a)

-- and that opens no stream, and hands over no first block
pub holding : (k l : Kept) (a b : Account) (move : State → State) → SparesTable move → Holds k a
    → Becomes b (opened a.log) (is_headless a) (move (seen a)) → l.state ≡ move k.state → IsSame k l → Leaves a b → IsRoomy l
    → Holds l b
holding k l a b move m h t e s v r =
    moving k l a b (opened a.log) (is_headless a) move m h t e (beside k l s) v
    (block-opened a b t.numbers v.block h.sound.block) (lacks-kept k l a b s t.numbers t.headless h.streams) r

-- what changes nothing but room
pub still-holds : (k l : Kept) (a : Account) → Holds k a → l.state ≡ k.state → IsSame k l → IsRoomy l → Holds l a
still-holds k l a h e s r = record {
  sound = h.sound;
  state = tabled l.state (record (seen a) { table = k.state.table }) (e ∙ h.state);
  table = λ n. ap (λ (x : State). x.table) e ∙ h.table n;
  role = s.client ∙ h.role;
  streams = lacks-kept k l a a s refl (λ id. refl) h.streams;
  reads = λ n. reads-kept k l a a (outside k l (beside k l s)) (record { greeted = refl; rest = refl }) (h.reads n);
  decodes = λ n. s.fault ∙ h.decodes n;
  encodes = s.entries ∙ h.encodes;
  room = r;
}

-- What is read of the parts

pub violation-kept : (k : Kept) (a : Account) → Holds k a → k.state.violation ≡ violation a.log
violation-kept k a h = ap (λ s. s.violation) h.state ∙ seen-violation a

pub lacks-head : (k : Kept) (a : Account) → Holds k a → (id : ℕ) → lacks_head id k ≡ is_headless a id
lacks-head k a h id =
    ap (λ o. k.client && nat_le k.headless id && o) (h.streams.known.known id) ∙ sym (h.streams.headless id)
