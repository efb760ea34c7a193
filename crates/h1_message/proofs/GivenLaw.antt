-- What a call gives, by the messages before and behind it.
use Rattle.std.proofs.Common.{sym, ◌∙◌, ap, refl}
use Rattle.std.specs.Prelude.{ℕ, ◌≡◌, Bool, false, List, ◌++◌, length, drop, Option, Some, None}
use Rattle.std.proofs.Math.Seq.{drop-append_seam}
use Rattle.ext_msgs.specs.declared.lists.Field.{Field}
use Rattle.http_model.specs.Reading.{Reading, Whole, Fault}
use Rattle.http_model.specs.Heads.{Head}
use Rattle.http_model.specs.Bodies.{Body, body}
use Rattle.http_model.specs.Reads.{reads, read_by, unread, with_body}
use Rattle.h1_read.specs.Messages.{head_of}
use Rattle.h1_read.specs.declared.message.Message.{Message}
use Rattle.h1_message.specs.Source.{Source, original}
use Rattle.h1_message.specs.Stages.{reading_of, nothing, IsGiven}

-- a message by what its bytes give of the head
pub by_reading : (s : Source) (r : Reading Head) → reading_of s ≡ r → original s ≡ read_by s.direction s.brought s.ended r
unfolding reads
by_reading s r e = ap (read_by s.direction s.brought s.ended) e

pub by_head : (s : Source) (h : Head) (behind : List ℕ) → reading_of s ≡ Whole h behind → original s ≡ with_body s.ended h (body h.length s.ended behind)
by_head s h behind e = by_reading s (Whole h behind) e

-- no head was there and none came
pub gives_unread : (f f' : Option Fault) → IsGiven (unread f) (unread f') nothing
gives_unread f f' = record {
  head = λ e. refl;
  once = λ e. refl;
  stated = λ m e. absurd cc;
  body = refl;
  trailers = λ e. refl;
}

-- a head came, and with it some of the body
pub gives_head : (f : Option Fault) (ended : Bool) (m : Message) (b : Body) (content : List ℕ) (trailers : List Field) → b.content ≡ content → trailers ≡ b.trailers
    → IsGiven (unread f) (with_body ended (head_of m) b) (record { head = Some m; body = content; trailers = trailers })
gives_head f ended m b content trailers c t = record {
  head = λ e. refl;
  once = λ e. absurd cc;
  stated = λ n e. by n e;
  body = sym c;
  trailers = λ e. t;
}
  where
    by : (n : Message) → ◌≡◌ {A = Option Message} (Some m) (Some n) → (n.length ≡ m.length) × (n.expects ≡ m.expects)
    by n e = let same : m ≡ n = cc in (ap (λ (x : Message). x.length) (sym same), ap (λ (x : Message). x.expects) (sym same))

-- some of the body came
pub gives_body : (e e' : Bool) (h : Head) (b b' : Body) (content : List ℕ) (trailers : List Field) → b'.content ≡ b.content ++ content
    → (b.whole ≡ false → trailers ≡ b'.trailers) → IsGiven (with_body e h b) (with_body e' h b') (record { head = None; body = content; trailers = trailers })
gives_body e e' h b b' content trailers c t = record {
  head = λ n. absurd cc;
  once = λ n. refl;
  stated = λ m n. absurd cc;
  body = sym (ap (drop (length b.content)) c ∙ drop-append_seam b.content content);
  trailers = t;
}
