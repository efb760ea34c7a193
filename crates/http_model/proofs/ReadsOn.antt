-- The law of the reader: reading on extends what was read.
use Rattle.std.proofs.Common.{inl, inr, sym, ◌∙◌, ap, subst, append-nil, refl}
use Rattle.std.specs.Prelude.{ℕ, ◌≡◌, Bool, true, false, not, ◌&&◌, ◌||◌, List, [], ◌++◌, Option, None}
use Rattle.http_model.specs.Reading.{Reading, Whole, Partial, Bad, Fault, Stays}
use Rattle.http_model.specs.Heads.{Head, message_head, is_bodiless, request_message, response_message_in, response_message}
use Rattle.http_model.specs.Bodies.{Body, body}
use Rattle.http_model.specs.Reads.{Original, reads, read_by, with_body, cut_short}
use Rattle.http_model.specs.Reader.{Extends, IsReader}
use Rattle.http_model.specs.declared.types.Direction.{Direction}
use Rattle.http_model.specs.declared.types.Direction.TheVariants.{Request, Response}
use Rattle.http_model.proofs.HeadsStable.{message_head-stays}
use Rattle.http_model.proofs.BodiesGrow.{BodyGoesOn, body_grows, whole_stays, no_body}

-- what is whole isn't cut short
not_cut : (e e' : Bool) (h : Head) (b : Body) → b.whole ≡ true → with_body e h b ≡ with_body e' h b
not_cut e e' h b w = ap (with_fault h b) (same e e' b.whole w)
  where
    with_fault : Head → Body → Option Fault → Original
    with_fault h b f = record (with_body false h b) { fault = f }

    same : (e e' w : Bool) → w ≡ true → cut_short (e && not w) b.fault ≡ cut_short (e' && not w) b.fault
    same e e' false i = absurd cc
    same true true true i = refl
    same true false true i = refl
    same false true true i = refl
    same false false true i = refl

extends_whole : (e e' w : Bool) (h : Head) (rest more : List ℕ) → w ≡ (body h.length e rest).whole → (w ≡ true → more ≡ [])
    → Extends (with_body e h (body h.length e rest)) (with_body (e || e') h (body h.length (e || e') (rest ++ more)))
extends_whole e e' true h rest more i k =
    let none : rest ++ more ≡ rest = ap (λ l. rest ++ l) (k refl) ∙ append-nil rest in
    inl (ap (λ l. with_body (e || e') h (body h.length (e || e') l)) none
    ∙ ap (with_body (e || e') h) (whole_stays h.length e e' rest (sym i))
    ∙ not_cut (e || e') e h (body h.length e rest) (sym i))
extends_whole e e' false h rest more i k =
    let g : BodyGoesOn (body h.length e rest) (body h.length (e || e') (rest ++ more)) = body_grows h.length e (e || e') rest more (sym i) in
    inr (inr (record { unfinished = sym i; trailers = g.trailers; head = refl; length = refl; expects = refl; body = g.content }))

extends_by : (d : Direction) (bytes more : List ℕ) (e e' : Bool) (r r' : Reading Head) → Stays r more r' → ((read_by d bytes e r).whole ≡ true → more ≡ [])
    → Extends (read_by d bytes e r) (read_by d (bytes ++ more) (e || e') r')
extends_by d bytes more e e' (Whole h rest) r' s k =
    subst (λ x. Extends (with_body e h (body h.length e rest)) (read_by d (bytes ++ more) (e || e') x)) (sym s)
    (extends_whole e e' (body h.length e rest).whole h rest more refl k)
extends_by d bytes more e e' Partial r' s k = inr (inl refl)
extends_by d bytes more e e' (Bad f) r' s k = inr (inl refl)

bodiless_by : (d : Direction) (bytes : List ℕ) (e : Bool) (r : Reading Head) → is_bodiless (read_by d bytes e r).length ≡ true → (read_by d bytes e r).body ≡ []
bodiless_by d bytes e (Whole h rest) w = no_body h.length e rest w
bodiless_by d bytes e Partial w = refl
bodiless_by d bytes e (Bad f) w = refl

headed_by : (d : Direction) (bytes : List ℕ) (e : Bool) (r : Reading Head) → (read_by d bytes e r).head ≡ None
    → ((read_by d bytes e r).whole ≡ false) × ((read_by d bytes e r).expects ≡ false)
headed_by d bytes e (Whole h rest) n = absurd cc
headed_by d bytes e Partial n = (refl, refl)
headed_by d bytes e (Bad f) n = (refl, refl)

early : (d : Direction) (to_head e : Bool) → (reads d to_head [] e).head ≡ None
unfolding reads request_message response_message response_message_in
early Request to_head e = refl
early Response to_head e = refl

pub reads_is_reader : IsReader reads
unfolding reads response_message response_message_in
reads_is_reader = record {
  extends = λ d to_head bytes more e e' k.
      extends_by d bytes more e e' (message_head d to_head bytes) (message_head d to_head (bytes ++ more)) (message_head-stays d to_head bytes more) k;
  bodiless = λ d to_head bytes e. bodiless_by d bytes e (message_head d to_head bytes);
  headed = λ d to_head bytes e. headed_by d bytes e (message_head d to_head bytes);
  early = early;
  request = λ x y bytes e. refl;
  response = λ x y e. refl;
}
