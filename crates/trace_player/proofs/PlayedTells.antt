-- What calls tell of an exchange: the pieces of a port and the parts of the processor's stream, and an event nothing.
use Rattle.std.proofs.Common.{refl, sym, ◌∙◌, ap, append-nil, append_assoc, arith, inl, inr}
use Rattle.std.proofs.lemmas.Bool.Decides.{eqb_tells}
use Rattle.std.proofs.lemmas.List.Elements.{All-head}
use Rattle.std.proofs.lemmas.List.{reverse-append}
use Rattle.std.specs.Prelude.{ℕ, ◌≡◌, ◌==◌, length, not, Bool, true, false, List, [], ◌∷◌, ◌++◌, Option, Some, None, is_some, filter_map, if◌then◌else◌}
use Rattle.std.specs.List.{All, concat}
use Rattle.http_model.specs.Bytes.{is_empty}
use Rattle.filter_model.specs.Config.{FilterConfig}
use Rattle.filter_model.specs.Right.{Call, Stepped, Took, Nexted, Failed, IsHistory, ask_due, ask_given, due, end_given}
use Rattle.filter_model.specs.Right as right
use Rattle.filter_model.specs.View.{ViewEntry, Sent}
use Rattle.filter_model.specs.declared.calls.Next.{Next}
use Rattle.filter_model.specs.declared.calls.Next.TheVariants as next
use Rattle.filter_model.specs.declared.calls.Side.{Side}
use Rattle.filter_model.specs.declared.calls.Side.TheVariants.{Client, Upstream}
use Rattle.filter_model.specs.declared.calls.Taken.{Taken}
use Rattle.filter_model.specs.declared.calls.Taken.TheVariants as taken
use Rattle.trace_model.specs.Lines.{asks_given, bytes_for, end_for, end_of, first_end, or_then, piece_for, piece_of, stream_end}
use Rattle.trace_model.specs.Rounds.{Taking, calls_given, calls_taken, gave, is_nothing, is_piece, stream_gave}
use Rattle.trace_player.specs.Ties.{Tells, asks_in_order, last_end}
use Rattle.trace_player.specs.declared.brought.Brought.{Brought}

pub or_none : (o : Option Bool) → or_then o None ≡ o
or_none (Some b) = refl
or_none None = refl

pub or_assoc : (x y z : Option Bool) → or_then (or_then x y) z ≡ or_then x (or_then y z)
or_assoc (Some b) y z = refl
or_assoc None y z = refl

pub then_none : (o x : Option Bool) → is_some o ≡ false → x ≡ or_then o x
then_none (Some b) x e = absurd cc
then_none None x e = refl

pub then_some : (o x : Option Bool) → is_some o ≡ true → o ≡ or_then o x
then_some (Some b) x e = refl
then_some None x e = absurd cc

-- The calls stand in front of those before

gave_front : (s : Side) (pieces : List (List ℕ)) (h t : List Call) → gave s pieces (h ++ t) ≡ gave s pieces h ++ t
gave_front s [] h t = refl
gave_front s (b ∷ pieces) h t = gave_front s pieces (Took s (taken.Piece b) ∷ h) t

pub taken_front : (held : Bool) (s : Side) (t : Taking) (h : List Call) → calls_taken held s t h ≡ calls_taken held s t [] ++ h
taken_front true s t h = refl
taken_front false s t h = ap (λ l. Took s t.last ∷ l) (gave_front s t.pieces [] h)

given_front : (n : Next) (h t : List Call) → calls_given n (h ++ t) ≡ calls_given n h ++ t
given_front (next.Ask bytes) h t = refl
given_front next.Finish h t = refl
given_front next.Reset h t = refl
given_front next.Nothing h t = refl

pub stream_front : (nexts : List Next) (h t : List Call) → stream_gave nexts (h ++ t) ≡ stream_gave nexts h ++ t
stream_front [] h t = refl
stream_front (n ∷ nexts) h t = ap (λ l. stream_gave nexts l) (given_front n h t) ∙ stream_front nexts (calls_given n h) t

-- A port's pieces

bytes_same : (s o : Side) → ((t : Taken) → piece_for o (Took s t) ≡ []) → (pieces : List (List ℕ)) (h : List Call) → bytes_for o (gave s pieces h) ≡ bytes_for o h
bytes_same s o e [] h = refl
bytes_same s o e (b ∷ pieces) h =
    bytes_same s o e pieces (Took s (taken.Piece b) ∷ h) ∙ ap (λ l. bytes_for o h ++ l) (e (taken.Piece b)) ∙ append-nil (bytes_for o h)

bytes_more : (s : Side) → ((t : Taken) → piece_for s (Took s t) ≡ piece_of t) → (pieces : List (List ℕ)) (h : List Call) → bytes_for s (gave s pieces h) ≡ bytes_for s h ++ concat pieces
bytes_more s e [] h = sym (append-nil (bytes_for s h))
bytes_more s e (b ∷ pieces) h =
    bytes_more s e pieces (Took s (taken.Piece b) ∷ h) ∙ ap (λ l. bytes_for s h ++ l ++ concat pieces) (e (taken.Piece b)) ∙ append_assoc (bytes_for s h) b (concat pieces)

ends_same : (s o : Side) → ((b : List ℕ) → end_for o (Took s (taken.Piece b)) ≡ None) → (pieces : List (List ℕ)) (h : List Call) → first_end o (gave s pieces h) ≡ first_end o h
ends_same s o e [] h = refl
ends_same s o e (b ∷ pieces) h =
    ends_same s o e pieces (Took s (taken.Piece b) ∷ h) ∙ ap (λ l. or_then (first_end o h) l) (e b) ∙ or_none (first_end o h)

asks_same : (s : Side) (pieces : List (List ℕ)) (h : List Call) → asks_given (gave s pieces h) ≡ asks_given h
asks_same s [] h = refl
asks_same s (b ∷ pieces) h = asks_same s pieces (Took s (taken.Piece b) ∷ h)

stream_same : (s : Side) (pieces : List (List ℕ)) (h : List Call) → stream_end (gave s pieces h) ≡ stream_end h
stream_same s [] h = refl
stream_same s (b ∷ pieces) h = stream_same s pieces (Took s (taken.Piece b) ∷ h) ∙ or_none (stream_end h)

no_bytes : (t : Taken) → is_piece t ≡ false → piece_of t ≡ []
no_bytes (taken.Piece bytes) e = absurd cc
no_bytes taken.Nothing e = refl
no_bytes taken.Done e = refl
no_bytes taken.Abort e = refl
no_bytes taken.Gone e = refl

pub client_tells : (t : Taking) (h : List Call) (b d : Brought) → is_piece t.last ≡ false → Tells h b
    → d.to_client.items ≡ b.to_client.items ++ concat t.pieces → d.to_up.items ≡ b.to_up.items → d.asks.items ≡ b.asks.items
    → d.ending ≡ b.ending → d.client_end ≡ or_then b.client_end (end_of t.last) → d.up_end ≡ b.up_end → Tells (calls_taken false Client t h) d
client_tells t h b d e k to_client to_up asks ending client_end up_end = record {
  to_client = to_client ∙ ap (λ l. l ++ concat t.pieces) k.to_client ∙ sym (bytes_more Client (λ x. refl) t.pieces h)
      ∙ sym (append-nil (bytes_for Client (gave Client t.pieces h))) ∙ ap (λ l. bytes_for Client (gave Client t.pieces h) ++ l) (sym (no_bytes t.last e));
  to_up = to_up ∙ k.to_up ∙ sym (bytes_same Client Upstream (λ x. refl) t.pieces h) ∙ sym (append-nil (bytes_for Upstream (gave Client t.pieces h)));
  asks = asks ∙ k.asks ∙ sym (asks_same Client t.pieces h);
  ending = ending ∙ k.ending ∙ sym (stream_same Client t.pieces h) ∙ sym (or_none (stream_end (gave Client t.pieces h)));
  client_end = client_end ∙ ap (λ o. or_then o (end_of t.last)) (k.client_end ∙ sym (ends_same Client Client (λ x. refl) t.pieces h));
  up_end = up_end ∙ k.up_end ∙ sym (ends_same Client Upstream (λ x. refl) t.pieces h) ∙ sym (or_none (first_end Upstream (gave Client t.pieces h)));
}

pub up_tells : (t : Taking) (h : List Call) (b d : Brought) → is_piece t.last ≡ false → Tells h b
    → d.to_up.items ≡ b.to_up.items ++ concat t.pieces → d.to_client.items ≡ b.to_client.items → d.asks.items ≡ b.asks.items
    → d.ending ≡ b.ending → d.up_end ≡ or_then b.up_end (end_of t.last) → d.client_end ≡ b.client_end → Tells (calls_taken false Upstream t h) d
up_tells t h b d e k to_up to_client asks ending up_end client_end = record {
  to_up = to_up ∙ ap (λ l. l ++ concat t.pieces) k.to_up ∙ sym (bytes_more Upstream (λ x. refl) t.pieces h)
      ∙ sym (append-nil (bytes_for Upstream (gave Upstream t.pieces h))) ∙ ap (λ l. bytes_for Upstream (gave Upstream t.pieces h) ++ l) (sym (no_bytes t.last e));
  to_client = to_client ∙ k.to_client ∙ sym (bytes_same Upstream Client (λ x. refl) t.pieces h) ∙ sym (append-nil (bytes_for Client (gave Upstream t.pieces h)));
  asks = asks ∙ k.asks ∙ sym (asks_same Upstream t.pieces h);
  ending = ending ∙ k.ending ∙ sym (stream_same Upstream t.pieces h) ∙ sym (or_none (stream_end (gave Upstream t.pieces h)));
  up_end = up_end ∙ ap (λ o. or_then o (end_of t.last)) (k.up_end ∙ sym (ends_same Upstream Upstream (λ x. refl) t.pieces h));
  client_end = client_end ∙ k.client_end ∙ sym (ends_same Upstream Client (λ x. refl) t.pieces h) ∙ sym (or_none (first_end Client (gave Upstream t.pieces h)));
}

-- The parts of the stream

bytes_kept : (s : Side) → ((n : Next) → piece_for s (Nexted n) ≡ []) → piece_for s (Stepped Sent) ≡ [] → (nexts : List Next) (h : List Call) → bytes_for s (stream_gave nexts h) ≡ bytes_for s h
bytes_kept s e f [] h = refl
bytes_kept s e f (next.Ask b ∷ nexts) h =
    bytes_kept s e f nexts (Stepped Sent ∷ Nexted (next.Ask b) ∷ h)
    ∙ ap (λ l. bytes_for s (Nexted (next.Ask b) ∷ h) ++ l) f ∙ append-nil (bytes_for s (Nexted (next.Ask b) ∷ h))
    ∙ ap (λ l. bytes_for s h ++ l) (e (next.Ask b)) ∙ append-nil (bytes_for s h)
bytes_kept s e f (next.Finish ∷ nexts) h = bytes_kept s e f nexts (Nexted next.Finish ∷ h) ∙ ap (λ l. bytes_for s h ++ l) (e next.Finish) ∙ append-nil (bytes_for s h)
bytes_kept s e f (next.Reset ∷ nexts) h = bytes_kept s e f nexts (Nexted next.Reset ∷ h) ∙ ap (λ l. bytes_for s h ++ l) (e next.Reset) ∙ append-nil (bytes_for s h)
bytes_kept s e f (next.Nothing ∷ nexts) h = bytes_kept s e f nexts (Nexted next.Nothing ∷ h) ∙ ap (λ l. bytes_for s h ++ l) (e next.Nothing) ∙ append-nil (bytes_for s h)

ends_kept : (s : Side) → ((n : Next) → end_for s (Nexted n) ≡ None) → end_for s (Stepped Sent) ≡ None → (nexts : List Next) (h : List Call) → first_end s (stream_gave nexts h) ≡ first_end s h
ends_kept s e f [] h = refl
ends_kept s e f (next.Ask b ∷ nexts) h =
    ends_kept s e f nexts (Stepped Sent ∷ Nexted (next.Ask b) ∷ h)
    ∙ ap (λ l. or_then (first_end s (Nexted (next.Ask b) ∷ h)) l) f ∙ or_none (first_end s (Nexted (next.Ask b) ∷ h))
    ∙ ap (λ l. or_then (first_end s h) l) (e (next.Ask b)) ∙ or_none (first_end s h)
ends_kept s e f (next.Finish ∷ nexts) h = ends_kept s e f nexts (Nexted next.Finish ∷ h) ∙ ap (λ l. or_then (first_end s h) l) (e next.Finish) ∙ or_none (first_end s h)
ends_kept s e f (next.Reset ∷ nexts) h = ends_kept s e f nexts (Nexted next.Reset ∷ h) ∙ ap (λ l. or_then (first_end s h) l) (e next.Reset) ∙ or_none (first_end s h)
ends_kept s e f (next.Nothing ∷ nexts) h = ends_kept s e f nexts (Nexted next.Nothing ∷ h) ∙ ap (λ l. or_then (first_end s h) l) (e next.Nothing) ∙ or_none (first_end s h)

asks_told : (nexts : List Next) (h : List Call) → asks_given (stream_gave nexts h) ≡ asks_given h ++ asks_in_order nexts
asks_told [] h = sym (append-nil (asks_given h))
asks_told (next.Ask b ∷ nexts) h =
    asks_told nexts (Stepped Sent ∷ Nexted (next.Ask b) ∷ h)
    ∙ ap (λ l. l ++ asks_in_order nexts) (reverse-append (b ∷ []) (filter_map ask_given h)) ∙ append_assoc (asks_given h) (b ∷ []) (asks_in_order nexts)
asks_told (next.Finish ∷ nexts) h = asks_told nexts (Nexted next.Finish ∷ h)
asks_told (next.Reset ∷ nexts) h = asks_told nexts (Nexted next.Reset ∷ h)
asks_told (next.Nothing ∷ nexts) h = asks_told nexts (Nexted next.Nothing ∷ h)

-- The stream's end is given once, so the last is the first

history_before : (c : FilterConfig) (nexts : List Next) (h : List Call) → IsHistory c (stream_gave nexts h) → IsHistory c h
history_before c [] h p = p
history_before c (next.Ask b ∷ nexts) h p = (history_before c nexts (Stepped Sent ∷ Nexted (next.Ask b) ∷ h) p).0.0
history_before c (next.Finish ∷ nexts) h p = (history_before c nexts (Nexted next.Finish ∷ h) p).0
history_before c (next.Reset ∷ nexts) h p = (history_before c nexts (Nexted next.Reset ∷ h) p).0
history_before c (next.Nothing ∷ nexts) h p = (history_before c nexts (Nexted next.Nothing ∷ h) p).0

finish_first : (o : Option (List ℕ)) (ends : List Bool) (e : Option Bool) → next.Finish ≡ due o (if is_empty ends then e else None) → ends ≡ []
finish_first o [] e p = refl
finish_first (Some b) (x ∷ ends) e p = absurd cc
finish_first None (x ∷ ends) e p = absurd cc

reset_first : (o : Option (List ℕ)) (ends : List Bool) (e : Option Bool) → next.Reset ≡ due o (if is_empty ends then e else None) → ends ≡ []
reset_first o [] e p = refl
reset_first (Some b) (x ∷ ends) e p = absurd cc
reset_first None (x ∷ ends) e p = absurd cc

none_given : (h t : List Call) → filter_map end_given (h ++ t) ≡ [] → stream_end h ≡ None
none_given [] t p = refl
none_given (Stepped e ∷ h) t p = ap (λ o. or_then o None) (none_given h t p)
none_given (Took s x ∷ h) t p = ap (λ o. or_then o None) (none_given h t p)
none_given (Failed ∷ h) t p = ap (λ o. or_then o None) (none_given h t p)
none_given (Nexted (next.Ask b) ∷ h) t p = ap (λ o. or_then o None) (none_given h t p)
none_given (Nexted next.Nothing ∷ h) t p = ap (λ o. or_then o None) (none_given h t p)
none_given (Nexted next.Finish ∷ h) t p = absurd cc
none_given (Nexted next.Reset ∷ h) t p = absurd cc

last_is_first : (c : FilterConfig) (nexts : List Next) (h t : List Call) → IsHistory c (stream_gave nexts (h ++ t)) → stream_end (stream_gave nexts h) ≡ last_end (stream_end h) nexts
last_is_first c [] h t p = refl
last_is_first c (next.Ask b ∷ nexts) h t p =
    last_is_first c nexts (Stepped Sent ∷ Nexted (next.Ask b) ∷ h) t p ∙ ap (λ o. last_end o nexts) (or_none (or_then (stream_end h) None) ∙ or_none (stream_end h))
last_is_first c (next.Finish ∷ nexts) h t p =
    let due_then = (history_before c nexts (Nexted next.Finish ∷ (h ++ t)) p).1 in
    last_is_first c nexts (Nexted next.Finish ∷ h) t p
    ∙ ap (λ o. last_end (or_then o (Some true)) nexts) (none_given h t (finish_first (ask_due c (h ++ t)) (filter_map end_given (h ++ t)) (right.account c (h ++ t)).ending due_then))
last_is_first c (next.Reset ∷ nexts) h t p =
    let due_then = (history_before c nexts (Nexted next.Reset ∷ (h ++ t)) p).1 in
    last_is_first c nexts (Nexted next.Reset ∷ h) t p
    ∙ ap (λ o. last_end (or_then o (Some false)) nexts) (none_given h t (reset_first (ask_due c (h ++ t)) (filter_map end_given (h ++ t)) (right.account c (h ++ t)).ending due_then))
last_is_first c (next.Nothing ∷ nexts) h t p =
    last_is_first c nexts (Nexted next.Nothing ∷ h) t p ∙ ap (λ o. last_end o nexts) (or_none (stream_end h))

stream_end_more : (xs ys : List Call) → stream_end (xs ++ ys) ≡ or_then (stream_end ys) (stream_end xs)
stream_end_more [] ys = sym (or_none (stream_end ys))
stream_end_more (x ∷ xs) ys = ap (λ o. or_then o (end_given x)) (stream_end_more xs ys) ∙ or_assoc (stream_end ys) (stream_end xs) (end_given x)

pub stream_tells : (c : FilterConfig) (nexts : List Next) (t h : List Call) (b d : Brought) → IsHistory c (stream_gave nexts t) → Tells h b
    → d.to_client.items ≡ b.to_client.items → d.to_up.items ≡ b.to_up.items → d.asks.items ≡ b.asks.items ++ asks_in_order nexts
    → d.ending ≡ or_then b.ending (last_end None nexts) → d.client_end ≡ b.client_end → d.up_end ≡ b.up_end → Tells (Nexted next.Nothing ∷ stream_gave nexts h) d
stream_tells c nexts t h b d p k to_client to_up asks ending client_end up_end =
    let ended : stream_end (stream_gave nexts h) ≡ or_then (stream_end h) (last_end None nexts) =
    ap stream_end (stream_front nexts [] h) ∙ stream_end_more (stream_gave nexts []) h ∙ ap (λ o. or_then (stream_end h) o) (last_is_first c nexts [] t p)
    in record {
      to_client = to_client ∙ k.to_client ∙ sym (bytes_kept Client (λ n. refl) refl nexts h) ∙ sym (append-nil (bytes_for Client (stream_gave nexts h)));
      to_up = to_up ∙ k.to_up ∙ sym (bytes_kept Upstream (λ n. refl) refl nexts h) ∙ sym (append-nil (bytes_for Upstream (stream_gave nexts h)));
      asks = asks ∙ ap (λ l. l ++ asks_in_order nexts) k.asks ∙ sym (asks_told nexts h);
      ending = ending ∙ ap (λ o. or_then o (last_end None nexts)) k.ending ∙ sym ended ∙ sym (or_none (stream_end (stream_gave nexts h)));
      client_end = client_end ∙ k.client_end ∙ sym (ends_kept Client (λ n. refl) refl nexts h) ∙ sym (or_none (first_end Client (stream_gave nexts h)));
      up_end = up_end ∙ k.up_end ∙ sym (ends_kept Upstream (λ n. refl) refl nexts h) ∙ sym (or_none (first_end Upstream (stream_gave nexts h)));
    }

-- whether there are parts

some_end : (b : Bool) (nexts : List Next) → is_some (last_end (Some b) nexts) ≡ true
some_end b [] = refl
some_end b (next.Ask bytes ∷ nexts) = some_end b nexts
some_end b (next.Finish ∷ nexts) = some_end true nexts
some_end b (next.Reset ∷ nexts) = some_end false nexts
some_end b (next.Nothing ∷ nexts) = some_end b nexts

none_asked : (nexts : List Next) → All (λ n. is_nothing n ≡ false) nexts → asks_in_order nexts ≡ [] → is_some (last_end None nexts) ≡ not (is_empty nexts)
none_asked [] all e = refl
none_asked (next.Ask b ∷ nexts) all e = absurd cc
none_asked (next.Finish ∷ nexts) all e = some_end true nexts
none_asked (next.Reset ∷ nexts) all e = some_end false nexts
none_asked (next.Nothing ∷ nexts) all e = let part = All-head (λ n. is_nothing n ≡ false) next.Nothing nexts all in absurd cc

none_there : (asks : List (List ℕ)) → length asks ≡ 0 → asks ≡ []
none_there [] e = refl
none_there (b ∷ asks) e = absurd (omega (arith, e))

pub some_given : (nexts : List Next) (asks : List (List ℕ)) (ending : Option Bool) (empty some : Bool) (n : ℕ) → All (λ n. is_nothing n ≡ false) nexts → asks ≡ asks_in_order nexts
    → ending ≡ last_end None nexts → n ≡ length asks → empty ≡ (n == 0) → empty ≡ true → some ≡ is_some ending → some ≡ not (is_empty nexts)
some_given nexts asks ending empty some n all asked ended l e f g =
    let zero : length asks ≡ 0 = elim (eqb_tells n 0) [
      | inl same ↦ omega (arith, same.1, l)
      | inr less ↦ let not_zero = less.0 in absurd cc
    ] in
    g ∙ ap is_some ended ∙ none_asked nexts all (sym asked ∙ none_there asks zero)

-- An event tells nothing

pub event_tells : (e : ViewEntry) (h : List Call) (b : Brought) → Tells h b → Tells (Stepped e ∷ h) b
event_tells e h b k = record {
  to_client = k.to_client ∙ sym (append-nil (bytes_for Client h));
  to_up = k.to_up ∙ sym (append-nil (bytes_for Upstream h));
  asks = k.asks;
  ending = k.ending ∙ sym (or_none (stream_end h));
  client_end = k.client_end ∙ sym (or_none (first_end Client h));
  up_end = k.up_end ∙ sym (or_none (first_end Upstream h));
}
