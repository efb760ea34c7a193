-- In every history of a hub what goes out on each stream is right.
use Rattle.std.proofs.Common.{sym, ◌∙◌, ap, subst, inl, inr, ◌⊎◌, append_assoc}
use Rattle.std.specs.Prelude.{ℕ, ◌≡◌, Bool, true, false, not, ◌&&◌, List, [], ◌∷◌, ◌++◌, length, map, filter, filter_map, find, reverse, cond, Option, Some, None, refl, if◌then◌else◌}
use Rattle.std.specs.List.{cons_option}
use Rattle.std.proofs.lemmas.Bool.{and_parts, not-true}
use Rattle.std.proofs.lemmas.List.Elements.{filter-append}
use Rattle.h2_frames.specs.declared.frame.Frame.{Frame}
use Rattle.h2_frames.specs.declared.frame.Frame.TheVariants as frame
use Rattle.h2_model.specs.Account.{Account, is_headless}
use Rattle.h2_model.specs.Calls.{is_open_here, next_head}
use Rattle.h2_model.specs.History.{Finish, Open, Reset, Take, called, frame_in, given, handed, headed, hold, is_of, is_violated, noted, queue_with, released, unless_violated, with_byte}
use Rattle.h2_model.specs.History as session
use Rattle.h2_model.specs.Log.{LogEntry, Log, Handed, Owed, Given, stream_of}
use Rattle.h2_model.specs.Queue.{is_block, whole_within}
use Rattle.h2_model.specs.Streams.{has_head, is_ended_here, is_live, is_opened, opened}
use Rattle.http_model.specs.Bytes.{IsPrefix}
use Rattle.hub_model.specs.HubCalls.{HubCall, HubConfig, Handing, HandsHead, HandsData}
use Rattle.hub_model.specs.World.{World, Line, is_over, line, start}
use Rattle.hub_model.specs.Meeting.{cancel}
use Rattle.hub_model.specs.Hearing.{told}
use Rattle.hub_model.specs.Sending.{all_handed, asks_of, frame_handed, frames_handed, session_call}
use Rattle.hub_model.specs.Happens.{world}
use Rattle.hub_model.specs.Allowed.{IsHubHistory, MayHand}
use Rattle.hub_model.specs.HubRight.{AreEnds, EndDue, IsOneHead, StreamRight, block_on, blocks_on, end_on, ends_on}
use Rattle.hub_model.proofs.Along.{Keeps, along}
use Rattle.hub_model.proofs.Streams.{next-headless, streams}
use Rattle.hub_laws.specs.Outgoing.{Each, IsFrameRight, Known, Said, StreamOut, all_data, data_of, frames_given, frames_out, is_body, is_sent_on}
use Rattle.hub_laws.proofs.Courses.{neither}
use Rattle.hub_laws.proofs.Queues.{on}
use Rattle.hub_laws.proofs.Held.{Body, Where, held_on}
use Rattle.hub_laws.proofs.Steps.{gone, values}
use Rattle.hub_laws.proofs.Ordered.{Hands, handed-ordered}
use Rattle.hub_laws.proofs.Calls.{finishes, resets, sends}
use Rattle.hub_laws.proofs.Taken.{taken-ordered, zero-other}
use Rattle.hub_laws.proofs.Comes.{Client, byte-comes, live-parts, opened-there, opens}
use Rattle.hub_laws.proofs.Heads.{headed-ordered}

-- The session of a hub is a client's, at every moment

same-client : (f : Frame) (a : Account) → (handed f a).client ≡ a.client
unfolding handed noted
same-client f a = by (is_headless a (stream_of f))
  where
    by : (b : Bool) → (if b then hold (Handed f) (noted (Handed f) a) else queue_with f (noted (Handed f) a)).client ≡ a.client
    by true = refl
    by false = refl

same-opened : (f : Frame) (a : Account) → is_opened 0 (handed f a).log ≡ is_opened 0 a.log
unfolding handed noted
same-opened f a = by (is_headless a (stream_of f))
  where
    by : (b : Bool) → is_opened 0 (if b then hold (Handed f) (noted (Handed f) a) else queue_with f (noted (Handed f) a)).log ≡ is_opened 0 a.log
    by true = refl
    by false = refl

handed-client : (f : Frame) (a : Account) → Hands f a → Client a → Client (handed f a)
handed-client f a h s = record { client = same-client f a ∙ s.client; zero = same-opened f a ∙ s.zero; ordered = handed-ordered f a h s.ordered }

record Same (a b : Account) : Type 0 where
  client : b.client ≡ a.client
  opened : is_opened 0 b.log ≡ is_opened 0 a.log

released-same : (es : List LogEntry) (a : Account) → Same a (released es a)
unfolding noted
released-same [] a = record { client = refl; opened = refl }
released-same (Owed f ∷ es) a = let r = released-same es (queue_with f (noted (Owed f) a)) in record { client = r.client; opened = r.opened }
released-same (Handed f ∷ es) a = let r = released-same es (queue_with f a) in record { client = r.client; opened = r.opened }
released-same (e ∷ es) a = let r = released-same es (queue_with (frame_in e) a) in record { client = r.client; opened = r.opened }

headed-same : (id : ℕ) (f : Frame) (a : Account) → Same a (headed id f a)
unfolding noted
headed-same id f a =
    let b : Account = queue_with f (noted (Handed f) a) in
    let r = released-same (filter (is_of id) b.held) (record b { held = filter (λ e. not (is_of id e)) b.held }) in
    record { client = r.client; opened = r.opened }

given-opened : (fs : List Frame) (log : Log) → is_opened 0 (given fs log) ≡ is_opened 0 log
given-opened [] log = refl
given-opened (f ∷ fs) log = given-opened fs (Given f ∷ log)

taken-same : (n : ℕ) (a : Account) → Same a (called (Take n) a)
unfolding called
taken-same n a = record { client = refl; opened = given-opened (whole_within n a.waiting) a.log }

told-client : (a : Account) → Client a → Client (told a)
told-client a s = record { client = s.client; zero = s.zero; ordered = s.ordered }

found-it : (p : ℕ → Bool) (xs : List ℕ) (x : ℕ) → find p xs ≡ Some x → p x ≡ true
found-it p [] x e = absurd cc
found-it p (y ∷ ys) x e = by (p y) refl e (λ q. found-it p ys x q)
  where
    some_same : (x y : ℕ) → Some x ≡ Some y → x ≡ y
    some_same x y e = cc

    by : (b : Bool) → p y ≡ b → (if b then Some y else find p ys) ≡ Some x → (find p ys ≡ Some x → p x ≡ true) → p x ≡ true
    by true h q rest = subst (λ z. p z ≡ true) (some_same y x q) h
    by false h q rest = rest q

next-opened : (id : ℕ) (a : Account) → next_head a ≡ Some id → is_opened id a.log ≡ true
next-opened id a e =
    let h : is_headless a id ≡ true = found-it (λ n. is_headless a n) (reverse (opened a.log)) id e in
    (and_parts a.client (is_opened id a.log) (and_parts (a.client && is_opened id a.log) (not (has_head id a.log)) h).0).1

unless-client : (a b : Account) → is_violated a ≡ false → Client b → Client (unless_violated a b)
unless-client a b v s = subst (λ x. Client (if x then a else b)) (sym v) s

open-parts : (id : ℕ) (a : Account) → is_open_here id a ≡ true → (is_live id a.log ≡ true) × (is_ended_here id a.log ≡ false)
open-parts id a h = let p = and_parts (is_live id a.log) (not (is_ended_here id a.log)) h in (p.0, not-true (is_ended_here id a.log) p.1)

sound-on : (w : World) → is_over w ≡ false → is_violated w.session ≡ false
sound-on w o = (neither w.broken (is_violated w.session) o).1

finish-client : (id : ℕ) (a : Account) → is_open_here id a ≡ true → is_violated a ≡ false → Client a → Client (called (Finish id) a)
unfolding called
finish-client id a h v s =
    let p = open-parts id a h in
    let q = live-parts id a.log p.0 in
    unless-client a (handed (frame.Data id [] true 0) a) v
    (handed-client (frame.Data id [] true 0) a (finishes id a (opened-there id a.log q.0 s.zero) s.client q.0 q.1 p.1) s)

reset-client : (id code : ℕ) (a : Account) → is_live id a.log ≡ true → is_violated a ≡ false → Client a → Client (called (Reset id code) a)
unfolding called
reset-client id code a h v s =
    let q = live-parts id a.log h in
    unless-client a (handed (frame.Reset id code) a) v
    (handed-client (frame.Reset id code) a (resets id code a (opened-there id a.log q.0 s.zero) s.client q.0 q.1) s)

hands-client : (c : HubConfig) (x : Handing) (w : World) → MayHand c w x w.session → is_violated w.session ≡ false → Client w.session
    → Client (called (session_call c x) w.session)
unfolding called
hands-client c (HandsHead id block) w h v s =
    let a : Account = w.session in
    let f : Frame = frame.Headers id block false true in
    let o : is_opened id a.log ≡ true = next-opened id a h.next in
    unless-client a (headed id f a) v (record {
      client = (headed-same id f a).client ∙ s.client;
      zero = (headed-same id f a).opened ∙ s.zero;
      ordered = headed-ordered id block true a (opened-there id a.log o s.zero) (next-headless id a h.next) s.ordered;
    })
hands-client c (HandsData id []) w h v s = s
hands-client c (HandsData id (b ∷ bytes)) w h v s =
    let a : Account = w.session in
    let p = open-parts id a h.here in
    let q = live-parts id a.log p.0 in
    unless-client a (handed (frame.Data id (b ∷ bytes) false (length (b ∷ bytes))) a) v
    (handed-client (frame.Data id (b ∷ bytes) false (length (b ∷ bytes))) a (sends id b bytes a (opened-there id a.log q.0 s.zero) s.client q.0 q.1 p.1 v) s)

take-client : (n : ℕ) (a : Account) → Client a → Client (called (Take n) a)
take-client n a s = record { client = (taken-same n a).client ∙ s.client; zero = (taken-same n a).opened ∙ s.zero; ordered = taken-ordered n a s.ordered }

start-client : Client start.session
unfolding start session.start
start-client = record {
  client = refl;
  zero = refl;
  ordered = record {
    spent = refl;
    begun = refl;
    on = λ id p. record {
      body = [];
      stream = record {
        good = record { shape = refl; bytes = record { rest = []; whole = refl }; all = λ x y. refl; resets = λ x. refl; ends = λ x. refl; known = tt };
        place = record { out = ap (λ b. cond b (session.own_settings true ∷ []) []) (zero-other id p); held = refl };
        fixed = λ x. refl;
        dropped = λ x. refl;
        let_go = λ x. refl;
      };
      clean = λ x. refl;
    };
  };
}

keeps-order : (c : HubConfig) → Keeps c (λ w. Client w.session)
keeps-order c = record {
  begins = start-client;
  enters = λ k e w g s. s;
  streams = λ k w wanted can s. opens w.session s;
  finishes = λ k id e w d s. finish-client id w.session d.here (sound-on w d.goes_on) s;
  resets = λ k id e w d s. reset-client id cancel w.session (open-parts id w.session d.here).0 (sound-on w d.goes_on) s;
  trims = λ id w there live o s. reset-client id cancel w.session live (sound-on w o) s;
  hears = λ e k w s. s;
  byte = λ b w s. told-client (with_byte b w.session) (byte-comes b w.session s);
  hands = λ x w h o s. hands-client c x w h (sound-on w o) s;
  gives = λ n w h s. take-client n w.session s;
  breaks = λ w s. s;
  counts = λ w s. s;
  ticks = λ now w s. s;
  opens = λ w s. s;
  closes = λ side k w s. s;
}

pub in-order : (c : HubConfig) (h : List HubCall) → IsHubHistory c h → Client (world c h).session
in-order c h i = along c (λ w. Client w.session) (keeps-order c) h i

-- What was handed over of a frame that goes out

abbrev Has : {A : Type 0} → A → List A → Type 0
Has x [] = ⊥
Has x (y ∷ ys) = (y ≡ x) ⊎ Has x ys

has-map : {A B : Type 0} (g : A → Option B) (x : A) (y : B) (xs : List A) → g x ≡ Some y → Has x xs → Has y (filter_map g xs)
has-map {B = B} g x y [] e h = absurd h
has-map {B = B} g x y (z ∷ xs) e (inl q) = subst (λ o. Has y (cons_option o (filter_map g xs))) (sym (ap g q ∙ e)) (inl refl)
has-map {B = B} g x y (z ∷ xs) e (inr q) = by (g z) (has-map g x y xs e q)
  where
    by : (o : Option B) → Has y (filter_map g xs) → Has y (cons_option o (filter_map g xs))
    by None r = r
    by (Some w) r = inr r

handed-has : (f : Frame) (log : Log) → Said (Handed f) log → Has f (frames_handed log)
handed-has f log h = has-map frame_handed (Handed f) f log refl (said log h)
  where
    said : (log : Log) → Said (Handed f) log → Has (Handed f) log
    said [] h = absurd h
    said (e ∷ log) (inl q) = inl q
    said (e ∷ log) (inr q) = inr (said log q)

finish-due : (c : HubConfig) (l : Line) (es : List (Option ℕ)) → AreEnds c l es → Has None es → EndDue c l true
finish-due c l [] h x = absurd x
finish-due c l (None ∷ []) h x = h
finish-due c l (Some code ∷ []) h (inl x) = absurd cc
finish-due c l (Some code ∷ []) h (inr x) = absurd x
finish-due c l (Some code ∷ None ∷ []) h x = h.1
finish-due c l (None ∷ y ∷ es) h x = absurd h
finish-due c l (Some code ∷ Some y ∷ es) h x = absurd h
finish-due c l (Some code ∷ None ∷ y ∷ es) h x = absurd h

some_same : (x y : ℕ) → Some x ≡ Some y → x ≡ y
some_same x y e = cc

reset-due : (c : HubConfig) (l : Line) (code : ℕ) (es : List (Option ℕ)) → AreEnds c l es → Has (Some code) es → (code ≡ cancel) × (finish : Bool) × EndDue c l finish
reset-due c l code [] h x = absurd x
reset-due c l code (None ∷ []) h (inl x) = absurd cc
reset-due c l code (None ∷ []) h (inr x) = absurd x
reset-due c l code (Some n ∷ []) h (inl x) = (sym (some_same n code x) ∙ h.0, false, h.1)
reset-due c l code (Some n ∷ []) h (inr x) = absurd x
reset-due c l code (Some n ∷ None ∷ []) h (inl x) = (sym (some_same n code x) ∙ h.0, true, h.1)
reset-due c l code (Some n ∷ None ∷ []) h (inr (inl x)) = absurd cc
reset-due c l code (Some n ∷ None ∷ []) h (inr (inr x)) = absurd x
reset-due c l code (None ∷ y ∷ es) h x = absurd h
reset-due c l code (Some n ∷ Some y ∷ es) h x = absurd h
reset-due c l code (Some n ∷ None ∷ y ∷ es) h x = absurd h

head-right : (c : HubConfig) (block : List ℕ) (blocks : List (List ℕ)) → IsOneHead c blocks → Has block blocks → IsOneHead c (block ∷ [])
head-right c block [] h x = absurd x
head-right c block (b ∷ []) h (inl x) = subst (λ y. IsOneHead c (y ∷ [])) x h
head-right c block (b ∷ []) h (inr x) = absurd x
head-right c block (b ∷ d ∷ bs) h x = absurd h

frame-right : (c : HubConfig) (l : Line) (id : ℕ) (log : Log) (f : Frame) → StreamRight c l id (frames_handed log) → is_sent_on id f ≡ true → Known log f
    → IsFrameRight c l log f
frame-right c l id log (frame.Headers n block last ends) r s (inl k) =
    head-right c block (blocks_on id (frames_handed log)) r.head
    (has-map (block_on id) (frame.Headers n block last ends) block (frames_handed log) (ap (λ (b : Bool). if b then Some block else None) s) (handed-has (frame.Headers n block last ends) log k))
frame-right c l id log (frame.Headers n block last ends) r s (inr k) = absurd k
frame-right c l id log (frame.Data n bytes true size) r s (inl k) =
    finish-due c l (ends_on id (frames_handed log)) r.ends
    (has-map (end_on id) (frame.Data n bytes true size) None (frames_handed log) (ap (λ (b : Bool). if b then Some None else None) s) (handed-has (frame.Data n bytes true size) log k))
frame-right c l id log (frame.Data n bytes true size) r s (inr k) = absurd k
frame-right c l id log (frame.Data n bytes false size) r s k = tt
frame-right c l id log (frame.Reset n code) r s (inl k) =
    inl (reset-due c l code (ends_on id (frames_handed log)) r.ends
    (has-map (end_on id) (frame.Reset n code) (Some code) (frames_handed log) (ap (λ (b : Bool). if b then Some (Some code) else None) s) (handed-has (frame.Reset n code) log k)))
frame-right c l id log (frame.Reset n code) r s (inr k) = inr k
frame-right c l id log (frame.Priority n) r s k = tt
frame-right c l id log (frame.Settings list) r s k = tt
frame-right c l id log frame.SettingsAck r s k = tt
frame-right c l id log (frame.Push n) r s k = tt
frame-right c l id log (frame.Ping ack bytes) r s k = tt
frame-right c l id log (frame.GoAway last code) r s k = tt
frame-right c l id log (frame.Window n k) r s x = tt
frame-right c l id log (frame.Continuation n block ends) r s k = tt
frame-right c l id log (frame.Unknown kind) r s k = tt

each-both : (P Q R : Frame → Type 0) → ((f : Frame) → P f → Q f → R f) → (fs : List Frame) → Each P fs → Each Q fs → Each R fs
each-both P Q R g [] p q = tt
each-both P Q R g (f ∷ fs) p q = (g f p.0 q.0, each-both P Q R g fs p.1 q.1)

all-sent : (id : ℕ) (fs : List Frame) → Each (λ f. is_sent_on id f ≡ true) (filter (is_sent_on id) fs)
all-sent id [] = tt
all-sent id (f ∷ fs) = by (is_sent_on id f) refl (all-sent id fs)
  where
    by : (b : Bool) → is_sent_on id f ≡ b → Each (λ g. is_sent_on id g ≡ true) (filter (is_sent_on id) fs)
        → Each (λ g. is_sent_on id g ≡ true) (cond b (f ∷ filter (is_sent_on id) fs) (filter (is_sent_on id) fs))
    by true e r = (e, r)
    by false e r = r

onward : (xs ys zs : List ℕ) → IsPrefix xs ys → IsPrefix ys zs → IsPrefix xs zs
onward xs ys zs p q = record { rest = p.rest ++ q.rest; whole = sym (append_assoc xs p.rest q.rest) ∙ ap (λ l. l ++ q.rest) p.whole ∙ q.whole }

block-data : (h : Frame) → is_block h ≡ true → data_of h ≡ []
block-data (frame.Data n bytes last size) b = absurd cc
block-data h b = refl

-- by where the stream's frames are
out-right : (c : HubConfig) (l : Line) (id : ℕ) (a : Account) → StreamRight c l id (frames_handed a.log) → (body : List Frame) (b : Bool)
    → Where (values id a.log) b (gone id a.log ++ on id a.waiting) (held_on id a.held) body → Body (values id a.log) body
    → StreamOut c l a.log (frames_out id a)
out-right c l id a r body b p g = by b p
  where
    same : frames_out id a ≡ gone id a.log ++ on id a.waiting
    same = filter-append (is_sent_on id) (frames_given a.log) (map (λ w. w.frame) a.waiting)

    sent : (fs : List Frame) → frames_out id a ≡ fs → Each (λ f. is_sent_on id f ≡ true) fs
    sent fs e = subst (Each (λ f. is_sent_on id f ≡ true)) e (all-sent id (frames_given a.log ++ map (λ w. w.frame) a.waiting))

    make : (fs : List Frame) → frames_out id a ≡ fs → StreamOut c l a.log fs → StreamOut c l a.log (frames_out id a)
    make fs e s = subst (StreamOut c l a.log) (sym e) s

    by : (b : Bool) → Where (values id a.log) b (gone id a.log ++ on id a.waiting) (held_on id a.held) body → StreamOut c l a.log (frames_out id a)
    by false p = make [] (same ∙ p.out) (record { order = refl; asks = record { rest = asks_of c l; whole = refl }; each = tt })
    by true p =
        let e : frames_out id a ≡ p.head ∷ body = same ∙ p.out in
        make (p.head ∷ body) e (record {
          order = ap (λ x. x && is_body body) p.block ∙ g.shape;
          asks = subst (λ d. IsPrefix (d ++ all_data body) (asks_of c l)) (sym (block-data p.head p.block))
              (onward (all_data body) (all_handed id a.log) (asks_of c l) g.bytes r.asks);
          each = each-both (λ f. is_sent_on id f ≡ true) (Known a.log) (IsFrameRight c l a.log) (λ f s k. frame-right c l id a.log f r s k) (p.head ∷ body) (sent (p.head ∷ body) e)
              (p.known, g.known);
        })

pub streams_out : (c : HubConfig) (h : List HubCall) → IsHubHistory c h → (k id : ℕ) → (line k (world c h)).stream ≡ Some id
    → StreamOut c (line k (world c h)) (world c h).session.log (frames_out id (world c h).session)
streams_out c h i k id own =
    let w : World = world c h in
    let s = streams c h i in
    let o = in-order c h i in
    let t = o.ordered.on id (s.there k id own) in
    out-right c (line k w) id w.session (s.right k id own) t.body (has_head id w.session.log) t.stream.place t.stream.good
