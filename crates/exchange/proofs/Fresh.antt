-- An exchange that was told nothing.
use Rattle.std.proofs.Common.{refl, sym, ◌∙◌, ap, arith, subst}
use Rattle.std.specs.Prelude.{◌≡◌, false, true, [], None}
use Rattle.ext_config.specs.Valid.{IsValid}
use Rattle.ext_config.specs.declared.config.Config.{Config}
use Rattle.header_mutation.specs.declared.setup.HalfSetup.{HalfSetup}
use Rattle.http_model.specs.Wire.{interim}
use Rattle.http_model.specs.declared.types.Direction.{Direction}
use Rattle.http_model.specs.declared.types.Direction.TheVariants.{Request, Response}
use Rattle.filter_model.specs.Account.{fresh_course, start}
use Rattle.filter_model.specs.Config.{FilterConfig}
use Rattle.filter_model.specs.Half.{half_rules}
use Rattle.filter_model.specs.Told.{known}
use Rattle.half_machine.specs.Stands.{FitsSetup, direction_of}
use Rattle.half_machine.specs.Stands as machine
use Rattle.h1_message.specs.Source.{untold}
use Rattle.h1_message.specs.Stages as reader
use Rattle.h1_message.specs.declared.reader.MessageReader.{MessageReader}
use Rattle.h1_outlet.specs.Stands.{fresh}
use Rattle.h1_outlet.specs.Stands as outlet
use Rattle.h1_outlet.specs.declared.outlet.Outlet.{Outlet}
use Rattle.exchange.specs.Flows.{IsFresh, Story, FlowStands}
use Rattle.exchange.specs.Settings.{FitsConfig, HasSizes, OfSettings, request_setup, response_setup, settings_of}
use Rattle.exchange.specs.Stands.{FlowTies}
use Rattle.exchange.specs.declared.flow.Flow.{Flow}
use Rattle.exchange.specs.declared.settings.Settings.{Settings}

story_of : FilterConfig → Direction → HalfSetup → Story
story_of c d setup = record {
  source = untold d;
  past = record { config = c.course; direction = d; modes = setup.modes; steps = [] };
  flowed = fresh d;
}

fits_request : (c : FilterConfig) (x : Config) → FitsConfig c x → FitsSetup c.course (request_setup x)
fits_request c x f = record { piece = f.piece; mark = f.mark; limit = f.buffer_limit; answer = f.answer_limit; rules = f.rules }

fits_response : (c : FilterConfig) (x : Config) → FitsConfig c x → FitsSetup c.course (response_setup x)
fits_response c x f = record { piece = f.piece; mark = f.mark; limit = f.buffer_limit; answer = f.answer_limit; rules = f.rules }

stands_fresh : (c : FilterConfig) (d : Direction) (r : MessageReader) (o : Outlet) (setup : HalfSetup) (x : Flow) → IsFresh r o setup x → reader.StandsFor (untold d) r → outlet.StandsFor (fresh d) o
    → FitsSetup c.course setup → direction_of setup.response ≡ d → FlowStands (story_of c d setup) x
unfolding story_of
stands_fresh c d r o setup x k begun idle f e = record {
  reader = subst (reader.StandsFor (untold d)) (sym k.reads) begun;
  half = subst (λ q. machine.StandsFor (record { config = c.course; direction = q; modes = setup.modes; steps = [] }) x.half) e (k.half c.course f);
  outlet = subst (outlet.StandsFor (fresh d)) (sym k.gives) idle;
  is_past = tt;
  parts = refl;
  way = refl;
}

pub fresh_request : (c : FilterConfig) (config : Config) (r : MessageReader) (o : Outlet) (setup : HalfSetup) (x : Flow) → FitsConfig c config → setup ≡ request_setup config → IsFresh r o setup x
    → reader.StandsFor (untold Request) r → outlet.StandsFor (fresh Request) o → FlowTies c Request (start c) (start c) 0 None x
unfolding half_rules story_of
fresh_request c config r o setup x f e k begun idle = record {
  story = story_of c Request (request_setup config);
  stands = stands_fresh c Request r o (request_setup config) x (subst (λ s. IsFresh r o s x) e k) begun idle (fits_request c config f) refl;
  config = refl;
  way = refl;
  source = refl;
  front = refl;
  given = refl;
  reply = refl;
  handed_on = refl;
  told = λ l. ap (λ m. known (fresh_course m)) (sym f.request);
  asks = record { rest = []; whole = refl };
  lost = k.lost;
  timer = λ l u. absurd (never u);
  extended = λ l. k.extended;
}
  where
    never : false ≡ true → ⊥
    never u = cc

pub fresh_response : (c : FilterConfig) (config : Config) (r : MessageReader) (o : Outlet) (setup : HalfSetup) (x : Flow) → FitsConfig c config → setup ≡ response_setup config → IsFresh r o setup x
    → reader.StandsFor (untold Response) r → outlet.StandsFor (fresh Response) o → FlowTies c Response (start c) (start c) 0 None x
unfolding half_rules story_of interim
fresh_response c config r o setup x f e k begun idle = record {
  story = story_of c Response (response_setup config);
  stands = stands_fresh c Response r o (response_setup config) x (subst (λ s. IsFresh r o s x) e k) begun idle (fits_response c config f) refl;
  config = refl;
  way = refl;
  source = refl;
  front = refl;
  given = refl;
  reply = refl;
  handed_on = refl;
  told = λ l. ap (λ m. known (fresh_course m)) (sym f.response);
  asks = record { rest = []; whole = refl };
  lost = k.lost;
  timer = λ l u. absurd (never u);
  extended = λ l. k.extended;
}
  where
    never : false ≡ true → ⊥
    never u = cc

pub sizes_of : (c : FilterConfig) (x : Config) → FitsConfig c x → IsValid x → HasSizes c
sizes_of c x f v =
    let e = f.buffer_limit in
    let i = f.answer_limit in
    let b = v.buffer_limit in
    let a = v.answer_limit in
    record {
      piece = f.piece;
      mark = f.mark;
      buffer_least = omega (arith, e, b);
      buffer_most = omega (arith, e, b);
      answer_least = omega (arith, i, a);
      answer_most = omega (arith, i, a);
    }

pub kept_of : (c : FilterConfig) (x : Config) (s : Settings) → FitsConfig c x → IsValid x → s ≡ settings_of x → OfSettings c s
kept_of c x s f v e =
    let k = v.max_timeout in
    let m = f.max_timeout_ms in
    record {
      failure_allow = ap (λ q. q.failure_allow) e ∙ sym f.failure_allow;
      timeout_ms = ap (λ q. q.timeout_ms) e ∙ sym f.timeout_ms;
      max_timeout_ms = ap (λ q. q.max_timeout_ms) e ∙ sym f.max_timeout_ms;
      few_ms = omega (arith, k, m);
      allow_override = ap (λ q. q.allow_override) e ∙ sym f.allow_override;
      no_immediate = ap (λ q. q.no_immediate) e ∙ sym f.no_immediate;
    }
