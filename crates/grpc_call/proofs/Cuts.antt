-- Messages of bytes that come in parts.
use Rattle.std.proofs.Common.{arith, ◌≡◌, ◌≢◌, ℕ, zero, suc, ◌+◌, ◌<◌, ◌≤◌, List, [], ◌∷◌, ◌++◌, length, take, drop, refl, sym, ◌∙◌, ap, subst, Some, None, length-append, length-drop}
use Rattle.std.proofs.lemmas.List.{drop-append-le, take-append-le, length-take-le, drop_all}
use Rattle.h2_frames.specs.Numbers.{u32_at}
use Rattle.grpc_call.specs.declared.fault.CallFault.{CallFault}
use Rattle.grpc_call.specs.Framed.{Beginning, Unfinished, Refused, Whole, first, Framed, before_rest, framed_by, framed_within, framed}
use Rattle.grpc_call.proofs.First.{Reach, within_prefix, refused, within_message, to_the_end, reach, first_short, refused_is, waits_is, whole_is, whole_says}
use Rattle.grpc_call.proofs.Messages.{size_stays, fault_stays}

-- what is told of bytes stays told
pub first_stays : (limit : ℕ) (xs ys : List ℕ) → first limit xs ≢ Unfinished → first limit (xs ++ ys) ≡ first limit xs
first_stays limit xs ys some = by (reach limit xs)
  where
    by : Reach limit xs → first limit (xs ++ ys) ≡ first limit xs
    by (within_prefix l) = absurd (some (first_short limit xs l))
    by (refused l fault f) =
        let all = length-append xs ys in
        refused_is limit (xs ++ ys) fault (omega arith) (fault_stays limit xs ys l ∙ f) ∙ sym (refused_is limit xs fault l f)
    by (within_message l f s) = absurd (some (waits_is limit xs l f s))
    by (to_the_end l f s) =
        let all = length-append xs ys in
        let size = size_stays xs ys l in
        let behind = length-drop 5 xs in
        let there : 5 + u32_at (xs ++ ys) 1 ≤ length (xs ++ ys) = omega arith in
        whole_is limit (xs ++ ys) (omega arith) (fault_stays limit xs ys l ∙ f) there
        ∙ ap Whole (
        ap (λ n. take n (drop 5 (xs ++ ys))) size ∙ ap (take (u32_at xs 1)) (drop-append-le 5 xs ys l)
        ∙ take-append-le (u32_at xs 1) (drop 5 xs) ys (omega arith)
        )
        ∙ sym (whole_is limit xs l f s)

-- a message has as many bytes as its prefix says, and takes five more
pub message_size : (limit : ℕ) (bytes message : List ℕ) → first limit bytes ≡ Whole message → length message ≡ u32_at bytes 1
message_size limit bytes message e =
    let says = whole_says limit bytes message e in
    let there = says.there in
    let behind = length-drop 5 bytes in
    ap length says.is ∙ length-take-le (u32_at bytes 1) (drop 5 bytes) (omega arith)

message_fits : (limit : ℕ) (bytes message : List ℕ) → first limit bytes ≡ Whole message → 5 + length message ≤ length bytes
message_fits limit bytes message e =
    let says = whole_says limit bytes message e in
    let there = says.there in
    let len = message_size limit bytes message e in
    omega arith

-- any fuel that is enough
enough : (f g limit : ℕ) (bytes : List ℕ) → length bytes < f → length bytes < g → framed_within f limit bytes ≡ framed_within g limit bytes
enough zero g limit bytes a b = absurd (omega arith)
enough (suc f) zero limit bytes a b = absurd (omega arith)
enough (suc f) (suc g) limit bytes a b = by (first limit bytes) refl (λ rest p q. enough f g limit rest p q)
  where
    by : (x : Beginning) → first limit bytes ≡ x → ((rest : List ℕ) → length rest < f → length rest < g → framed_within f limit rest ≡ framed_within g limit rest)
        → framed_by x bytes (λ rest. framed_within f limit rest) ≡ framed_by x bytes (λ rest. framed_within g limit rest)
    by Unfinished e ih = refl
    by (Refused fault) e ih = refl
    by (Whole message) e ih =
        let fits = message_fits limit bytes message e in
        let behind = length-drop (5 + length message) bytes in
        ap (before_rest message) (ih (drop (5 + length message) bytes) (omega arith) (omega arith))

pub framed_is : (limit : ℕ) (bytes : List ℕ) → framed limit bytes ≡ framed_by (first limit bytes) bytes (λ rest. framed limit rest)
unfolding framed
framed_is limit bytes = by (first limit bytes) refl
  where
    by : (x : Beginning) → first limit bytes ≡ x → framed_by x bytes (λ rest. framed_within (length bytes) limit rest) ≡ framed_by x bytes (λ rest. framed_within (suc (length rest)) limit rest)
    by Unfinished e = refl
    by (Refused fault) e = refl
    by (Whole message) e =
        let fits = message_fits limit bytes message e in
        let behind = length-drop (5 + length message) bytes in
        ap (before_rest message) (enough (length bytes) (suc (length (drop (5 + length message) bytes))) limit (drop (5 + length message) bytes) (omega arith) (omega arith))

-- messages, and then those of more bytes
abbrev pub after : Framed → Framed → Framed
after f g = record { messages = f.messages ++ g.messages; rest = g.rest; fault = g.fault }

-- what is found in bytes once more come behind them
pub record Added (limit : ℕ) (xs ys : List ℕ) (f : Framed) : Type 0 where
  pub goes_on : f.fault ≡ None → framed limit (xs ++ ys) ≡ after f (framed limit (f.rest ++ ys))
  pub stays : (fault : CallFault) → f.fault ≡ Some fault → (framed limit (xs ++ ys)).fault ≡ Some fault × (framed limit (xs ++ ys)).messages ≡ f.messages
  pub waits : f.fault ≡ None → first limit f.rest ≡ Unfinished

added_within : (n limit : ℕ) (xs ys : List ℕ) → length xs < n → Added limit xs ys (framed limit xs)
added_within zero limit xs ys l = absurd (omega arith)
added_within (suc n) limit xs ys l = by (first limit xs) refl (λ rest p. added_within n limit rest ys p)
  where
    told : (x : Beginning) → x ≢ Unfinished → first limit xs ≡ x → framed limit (xs ++ ys) ≡ framed_by x (xs ++ ys) (λ rest. framed limit rest)
    told x some e = framed_is limit (xs ++ ys) ∙ ap (λ (y : Beginning). framed_by y (xs ++ ys) (λ rest. framed limit rest)) (first_stays limit xs ys (λ u. some (sym e ∙ u)) ∙ e)

    from : (x : Beginning) → first limit xs ≡ x → Added limit xs ys (framed_by x xs (λ rest. framed limit rest)) → Added limit xs ys (framed limit xs)
    from x e a = subst (λ (f : Framed). Added limit xs ys f) (sym (framed_is limit xs ∙ ap (λ (y : Beginning). framed_by y xs (λ rest. framed limit rest)) e)) a

    behind : (message : List ℕ) (g : Framed) → framed limit (xs ++ ys) ≡ before_rest message (framed limit (drop (5 + length message) xs ++ ys))
        → Added limit (drop (5 + length message) xs) ys g → Added limit xs ys (before_rest message g)
    behind message g e a = record {
      goes_on = λ none. e ∙ ap (before_rest message) (a.goes_on none);
      stays = λ fault some. (ap (λ (f : Framed). f.fault) e ∙ (a.stays fault some).0, ap (λ (f : Framed). f.messages) e ∙ ap (λ (ms : List (List ℕ)). message ∷ ms) (a.stays fault some).1);
      waits = a.waits;
    }

    by : (x : Beginning) → first limit xs ≡ x → ((rest : List ℕ) → length rest < n → Added limit rest ys (framed limit rest)) → Added limit xs ys (framed limit xs)
    by Unfinished e ih = from Unfinished e (record { goes_on = λ none. refl; stays = λ fault some. absurd cc; waits = λ none. e })
    by (Refused fault) e ih =
        let t = told (Refused fault) (λ u. absurd cc) e in
        from (Refused fault) e (record {
          goes_on = λ none. absurd cc;
          stays = λ other some. (ap (λ (f : Framed). f.fault) t ∙ some, ap (λ (f : Framed). f.messages) t);
          waits = λ none. absurd cc;
        })
    by (Whole message) e ih =
        let fits = message_fits limit xs message e in
        let rest_len = length-drop (5 + length message) xs in
        let t = told (Whole message) (λ u. absurd cc) e ∙ ap (λ (b : List ℕ). before_rest message (framed limit b)) (drop-append-le (5 + length message) xs ys fits) in
        from (Whole message) e (behind message (framed limit (drop (5 + length message) xs)) t (ih (drop (5 + length message) xs) (omega arith)))

pub added : (limit : ℕ) (xs ys : List ℕ) → Added limit xs ys (framed limit xs)
added limit xs ys = added_within (suc (length xs)) limit xs ys (omega arith)

-- bytes with one message
pub one_message : (limit : ℕ) (bytes message : List ℕ) → first limit bytes ≡ Whole message → length bytes ≡ 5 + length message
    → framed limit bytes ≡ record { messages = message ∷ []; rest = []; fault = None }
one_message limit bytes message e l =
    let none : drop (5 + length message) bytes ≡ [] = drop_all (5 + length message) bytes (omega arith) in
    framed_is limit bytes ∙ ap (λ (y : Beginning). framed_by y bytes (λ rest. framed limit rest)) e ∙ ap (λ (b : List ℕ). before_rest message (framed limit b)) none
    ∙ ap (before_rest message) (framed_is limit [] ∙ ap (λ (y : Beginning). framed_by y [] (λ rest. framed limit rest)) (first_short limit [] (omega arith)))
