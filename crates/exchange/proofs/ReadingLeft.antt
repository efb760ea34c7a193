-- A client leaves before its first byte.
use Rattle.std.proofs.Common.{refl, sym, ◌∙◌, ap, subst, arith}
use Rattle.std.specs.Prelude.{ℕ, ◌≡◌, true, List, [], Option, Some, None, length, filter_map}
use Rattle.http_model.specs.Wire.{local_reply}
use Rattle.http_model.specs.declared.types.Direction.{Direction}
use Rattle.http_model.specs.declared.types.Direction.TheVariants.{Request, Response}
use Rattle.filter_model.specs.Account.{ExchangeAccount, Left, course, gathered}
use Rattle.filter_model.specs.Config.{FilterConfig}
use Rattle.filter_model.specs.Right.{Call, account, ask_given, end_given}
use Rattle.filter_model.specs.Step.{is_departure, is_live, step}
use Rattle.filter_model.specs.View.{End}
use Rattle.filter_model.specs.declared.calls.Side.TheVariants.{Client}
use Rattle.filter_model.proofs.AtRest.{steady}
use Rattle.filter_model.proofs.EntryFits.{is_short}
use Rattle.filter_model.proofs.RestStays.{left_fate}
use Rattle.filter_model.proofs.ToldEntry.{arrives_on}
use Rattle.h1_message.specs.Stages as reader
use Rattle.h1_message.specs.declared.reader.MessageReader.{MessageReader}
use Rattle.exchange.specs.Answering.{unsettled}
use Rattle.exchange.specs.Stands.{AtRest, IsFate, IsAfter, handed_out, written_reply}
use Rattle.exchange.specs.declared.exchange.Exchange.{Exchange}
use Rattle.exchange.specs.declared.fate.Fate.TheVariants as fates
use Rattle.exchange.proofs.ReadingComes.{came, came_is, flow_comes, leaves, lost_same}
use Rattle.exchange.proofs.ReadingOwed.{response_lost, same_request, same_source}
use Rattle.exchange.proofs.ReadingRests.{left_of}
use Rattle.exchange.proofs.ReadingSides.{both_brought, ended_rests}
use Rattle.exchange.proofs.TimingTies.{none_waits}

no_reply_left : (d : Direction) (w : Option ℕ) → written_reply d w Left ≡ []
no_reply_left Request w = refl
no_reply_left Response None = refl
no_reply_left Response (Some n) = refl

pub left_rests : (c : FilterConfig) (h : List Call) (x : Exchange) (new : MessageReader) → (s : IsAfter c h x) → is_live (account c h).fate ≡ true → is_departure (End Client) (gathered (End Client) (account c h)) ≡ true
    → reader.StandsFor (came Client (End Client) (account c h)) new
    → AtRest c (unsettled c (End Client) (account c h)) (length (filter_map ask_given h)) (filter_map end_given h) (record x { request = record x.request { reader = new }; fate = fates.Left })
left_rests c h x new s l k r =
    let e = End Client in
    let a : ExchangeAccount = account c h in
    let g : ExchangeAccount = gathered e a in
    let n = handed_out (length (filter_map ask_given h)) x.ready in
    let arrives = arrives_on c h e (s.right, tt) tt l (omega (arith, s.made.sizes.piece, s.made.sizes.mark)) Request (is_short c h e (s.right, tt) tt Request) in
    let none = leaves a (steady c h s.right).along.read k in
    let same = same_request (course Request a).original (course Request g).original arrives.before arrives.after arrives.extends (λ i. none.1) in
    let fate : (step c e a).fate ≡ Left = left_fate c e a l k in
    ended_rests c h e x (record x.request { reader = new }) x.response a a x.waiting fates.Left l (both_brought Client e a tt) s.ties (s.ties.to_head ∙ sym same.0)
    (left_of c Request g a n x.waiting (record x.request { reader = new }) l
    (flow_comes c Request g a n x.waiting x.request (came Client e a) new s.ties.request (came_is Client e a tt) refl (lost_same Client e a tt) r))
    (left_of c Response g a n x.waiting x.response l
    (flow_comes c Response g a n x.waiting x.response s.ties.response.story.source x.response.reader s.ties.response (s.ties.response.source ∙ same_source e a tt same.0) same.1 (response_lost e a tt) s.ties.response.stands.reader))
    (ap is_live fate) (λ d. ap (written_reply d x.waiting) fate ∙ no_reply_left d x.waiting) (subst (λ f. IsFate c (unsettled c e a) f fates.Left) (sym fate) tt)
    (λ code u. absurd (none_waits a.fate (local_reply code) l (s.ties.waiting code u)))
