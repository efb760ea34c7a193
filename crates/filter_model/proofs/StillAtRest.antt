-- Each account of a live exchange is at rest.
use Rattle.std.specs.Prelude.{◌≡◌, true, List, []}
use Rattle.http_model.specs.declared.types.Direction.{Direction}
use Rattle.filter_model.specs.Config.{FilterConfig}
use Rattle.filter_model.specs.Course.{committed, due}
use Rattle.filter_model.specs.Account.{course, flow, front, given_count}
use Rattle.filter_model.specs.Right.{Call, IsHistory, account}
use Rattle.filter_model.specs.Sound.{Sound}
use Rattle.filter_model.specs.Step.{is_live}
use Rattle.filter_model.proofs.AtRest.{steady}
use Rattle.filter_model.proofs.ToldEntry.{rested, sound_in}
use Rattle.filter_model.proofs.ToldSame.{committed_none}

pub head_rests : (c : FilterConfig) (h : List Call) → IsHistory c h → is_live (account c h).fate ≡ true → (d : Direction)
    → committed c.course d (course d (account c h)) ≡ course d (account c h)
head_rests c h y l d = committed_none c.course d (course d (account c h)) (rested d c (account c h) (steady c h y) l).chosen

pub asks_rest : (c : FilterConfig) (h : List Call) → IsHistory c h → is_live (account c h).fate ≡ true → (d : Direction)
    → due c.course d (course d (account c h)) ≡ []
asks_rest c h y l d = (rested d c (account c h) (steady c h y) l).asked

pub given_rests : (c : FilterConfig) (h : List Call) → IsHistory c h → is_live (account c h).fate ≡ true → (d : Direction)
    → (course d (account c h)).given ≡ given_count d (course d (account c h)).head (front d (account c h)) (flow d (account c h)).given
given_rests c h y l d = (rested d c (account c h) (steady c h y) l).counted

pub stays_sound : (c : FilterConfig) (h : List Call) → IsHistory c h → (d : Direction) → Sound c.course (course d (account c h))
stays_sound c h y d = sound_in d c (account c h) (steady c h y).along.held

pub released_both : (c : FilterConfig) (h : List Call) → IsHistory c h → (account c h).response.course.released ≡ (account c h).request.course.released
released_both c h y = (steady c h y).along.held.both
