-- What a driver knows after each call.
use Rattle.std.proofs.Common.{refl, sym, ◌∙◌, arith}
use Rattle.std.specs.Prelude.{ℕ, ◌≡◌, ◌+◌, ◌-◌, min, ◌<◌, ◌≤◌, Bool, true, false, not, List, [], length}
use Rattle.ext_msgs.specs.declared.lists.Field.{Field}
use Rattle.ext_msgs.specs.declared.answer.Common.{Common}
use Rattle.ext_msgs.specs.declared.modes.PartModes.{PartModes}
use Rattle.http_model.specs.Heads.{is_bodiless}
use Rattle.http_model.specs.declared.types.Length.{Length}
use Rattle.http_model.specs.declared.types.Out.{Out}
use Rattle.http_model.specs.declared.types.Out.TheVariants as part
use Rattle.http_model.specs.declared.types.Direction.{Direction}
use Rattle.filter_model.specs.Config.{CourseConfig}
use Rattle.filter_model.specs.Course.{body_room, course_rules}
use Rattle.filter_model.specs.Half.{Past, Settle, Head, Bytes, End, Release, Answer, Sent, Given, Told, Asked, Gave, after_step, course, half_rules}
use Rattle.half_machine.specs.Calls.{MayBytes}
use Rattle.half_driver.specs.Driving.{Follows, size_of}

clash : true ≡ false → ⊥
clash e = cc

pub settled : (read unfinished : Bool) (unsent waiting : ℕ) (p : Past) (m : PartModes) → Follows read unfinished unsent waiting p → Follows read unfinished unsent waiting (after_step (Told (Settle m)) p)
unfolding half_rules course_rules
settled read unfinished unsent waiting p m f = record { unread = f.unread; reads = f.reads; sends = f.sends; gives = f.gives }

pub headed : (unfinished b : Bool) (unsent waiting : ℕ) (p : Past) (h : List Field) (n : Length) → b ≡ not (is_bodiless n) → Follows false unfinished unsent waiting p
    → Follows true b unsent waiting (after_step (Told (Head h n)) p)
unfolding half_rules course_rules
headed unfinished b unsent waiting p h n e f = record {
  unread = λ z. absurd (clash z);
  reads = λ z. (refl, bare (is_bodiless n) (sym e ∙ z), bare (is_bodiless n) (sym e ∙ z));
  sends = f.sends;
  gives = f.gives;
}
  where
    bare : (q : Bool) → not q ≡ true → q ≡ false
    bare true z = absurd (clash (sym z))
    bare false z = refl

pub fed : (read unfinished : Bool) (unsent waiting : ℕ) (p : Past) (b : List ℕ) → Follows read unfinished unsent waiting p → Follows read unfinished unsent waiting (after_step (Told (Bytes b)) p)
unfolding half_rules course_rules
fed read unfinished unsent waiting p b f = record { unread = f.unread; reads = f.reads; sends = f.sends; gives = f.gives }

pub ended : (read unfinished : Bool) (unsent waiting : ℕ) (p : Past) (b : List ℕ) (ts : List Field) → Follows read unfinished unsent waiting p
    → Follows read false unsent waiting (after_step (Told (End b ts)) p)
unfolding half_rules course_rules
ended read unfinished unsent waiting p b ts f = record { unread = f.unread; reads = λ z. absurd (clash (sym z)); sends = f.sends; gives = f.gives }

pub released : (read unfinished : Bool) (unsent waiting : ℕ) (p : Past) → Follows read unfinished unsent waiting p → Follows read unfinished unsent waiting (after_step (Told Release) p)
unfolding half_rules course_rules
released read unfinished unsent waiting p f = record { unread = f.unread; reads = f.reads; sends = f.sends; gives = f.gives }

pub asked : (read unfinished : Bool) (unsent waiting : ℕ) (p : Past) → Follows read unfinished unsent waiting p
    → Follows read unfinished (min (unsent + 1) 4_294_967_295) waiting (after_step Asked p)
unfolding half_rules course_rules
asked read unfinished unsent waiting p f = record { unread = f.unread; reads = f.reads; sends = let s = f.sends in omega arith; gives = f.gives }

pub sent : (read unfinished : Bool) (unsent waiting : ℕ) (p : Past) → 0 < unsent → Follows read unfinished unsent waiting p
    → Follows read unfinished (unsent - 1) waiting (after_step (Told Sent) p)
unfolding half_rules course_rules
sent read unfinished unsent waiting p m f = record { unread = f.unread; reads = f.reads; sends = let s = f.sends in omega arith; gives = f.gives }

pub gave : (read unfinished : Bool) (unsent waiting : ℕ) (p : Past) (out : Out) → Follows read unfinished unsent waiting p
    → Follows read unfinished unsent (min (waiting + size_of out) 18_446_744_073_709_551_615) (after_step (Gave out) p)
unfolding half_rules course_rules
gave read unfinished unsent waiting p (part.Head h framing) f = record { unread = f.unread; reads = f.reads; sends = f.sends; gives = let g = f.gives in omega arith }
gave read unfinished unsent waiting p (part.Data b) f = record { unread = f.unread; reads = f.reads; sends = f.sends; gives = let g = f.gives in omega arith }
gave read unfinished unsent waiting p (part.Trailers h) f = record { unread = f.unread; reads = f.reads; sends = f.sends; gives = let g = f.gives in omega arith }
gave read unfinished unsent waiting p part.End f = record { unread = f.unread; reads = f.reads; sends = f.sends; gives = let g = f.gives in omega arith }
gave read unfinished unsent waiting p part.Nothing f = record { unread = f.unread; reads = f.reads; sends = f.sends; gives = let g = f.gives in omega arith }

pub given : (read unfinished : Bool) (unsent waiting : ℕ) (p : Past) (n size : ℕ) → size ≡ n → size ≤ waiting → Follows read unfinished unsent waiting p
    → Follows read unfinished unsent (waiting - size) (after_step (Told (Given n)) p)
unfolding half_rules course_rules
given read unfinished unsent waiting p n size e l f = record { unread = f.unread; reads = f.reads; sends = f.sends; gives = let g = f.gives in omega arith }

pub fresh : (c : CourseConfig) (d : Direction) (m : PartModes) → Follows false false 0 0 (record { config = c; direction = d; modes = m; steps = [] })
unfolding half_rules
fresh c d m = record { unread = λ e. refl; reads = λ e. absurd (clash (sym e)); sends = omega arith; gives = omega arith }

pub may_bytes : (p : Past) (read unfinished : Bool) (unsent waiting : ℕ) (b : List ℕ) (room : ℕ) → Follows read unfinished unsent waiting p → unfinished ≡ true
    → room ≡ body_room p.config p.direction (course p) → length b ≤ room → MayBytes p b
may_bytes p read unfinished unsent waiting b room f u r l =
    let o = f.reads u in
    record { read = o.0; has_body = o.1; unfinished = o.2; fits = omega arith }

pub answered : (read unfinished : Bool) (unsent waiting : ℕ) (p : Past) (a : Common) → Follows read unfinished unsent waiting p
    → Follows read unfinished unsent waiting (after_step (Told (Answer a)) p)
unfolding half_rules course_rules
answered read unfinished unsent waiting p a f = record { unread = f.unread; reads = f.reads; sends = f.sends; gives = f.gives }
