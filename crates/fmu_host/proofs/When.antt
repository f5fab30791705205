-- What holds of each status, from what holds of each end.
use Rattle.std.proofs.Common.{◌≡◌, ◌⊎◌, inl, inr, ℕ, None, refl, sym, ap, ◌∙◌, subst, arith}
use Rattle.std.specs.Prelude.{Ok, Err}
use Rattle.sim_base.specs.Causes.{Rose, one_more}
use Rattle.sim_base.specs.Folder.{FolderView}
use Rattle.sim_base.specs.declared.folder.ReadFault.TheVariants as r
use Rattle.value_types.specs.declared.shape.Shape.{Shape}
use Rattle.bench_fmus.specs.Models.{model_named}
use Rattle.host_serving.specs.declared.serving.ServeEnd.{ServeEnd}
use Rattle.host_serving.specs.declared.serving.ServeEnd.TheVariants as E
use Rattle.host_serving.specs.Serving.{scene}
use Rattle.fmu_host.specs.declared.hosting.HostEnd.{HostEnd}
use Rattle.fmu_host.specs.declared.hosting.HostEnd.TheVariants as H
use Rattle.fmu_host.specs.Description.{IsRead, LacksShape, Reads, ReadsBroken}
use Rattle.fmu_host.specs.Facts.{Facts, ServesShape, ShapeFacts, Unbegun, WithoutLine, WithoutShape, WithShape, first_view}
use Rattle.fmu_host.specs.Happened.{Happened}
use Rattle.fmu_host.specs.Line.{IsLine, IsNoLine, Line}
use Rattle.fmu_host.specs.Rows.{AfterCalls, BeforeCalls, ByAbsence, ByFault, ByLength, Ends, IsBadFrame, IsDone, IsUnpermitted, IsUnserved, LacksFile, LacksMemory, OnLine}
use Rattle.fmu_host.specs.Status.{status_of}
use Rattle.fmu_host.proofs.LinkLemmas.{first_told, lost}
use Rattle.fmu_host.proofs.Statuses.{Status, Done, WrongFrame, WrongWords, NoFile, BrokenRule, NoMachine, WrongCall, ManyCalls, LostLink, NoMemory, number, numbered, of_end, of_serve, same_number}

abbrev pub HasFacts : HostEnd → Happened → Type 0
HasFacts e h = Facts e h.words h.old h.new

abbrev pub LosesCount : Happened → Type 0
LosesCount h = Rose h.old.link.input.faults h.new.link.input.faults ⊎ Rose h.old.link.output.faults h.new.link.output.faults

abbrev pub IsUnknown : Happened → Line → Type 0
IsUnknown h line = (shape : Shape) × IsRead line shape h.old.folder h.new.folder × (model_named shape.identifier ≡ None)

abbrev pub WhenIs : Status → Happened → Type 0
WhenIs Done h = OnLine h (Ends h IsDone)
WhenIs WrongFrame h = OnLine h (Ends h IsBadFrame)
WhenIs WrongWords h = IsNoLine h.words × (h.new ≡ h.old)
WhenIs NoFile h = OnLine h (LacksFile h) × IsUnserved h
WhenIs BrokenRule h = OnLine h (λ line. ReadsBroken line h.old.folder h.new.folder) × IsUnserved h
WhenIs NoMachine h = OnLine h (IsUnknown h) × IsUnserved h
WhenIs WrongCall h = OnLine h (Ends h IsUnpermitted)
WhenIs ManyCalls h = OnLine h (Ends h (λ end. end ≡ E.TooMany))
WhenIs LostLink h = OnLine h (Ends h (λ end. end ≡ E.Failed)) × LosesCount h
WhenIs NoMemory h = (h.new ≡ h.old) ⊎ OnLine h (LacksMemory h)

-- a read that failed raised the count
pub read_rose : (line : Line) (old new : FolderView) → Reads line (Err r.Failed) old new → Rose old.faults new.faults
read_rose line old new e = raised old.faults new.faults (ap (λ (v : FolderView). v.faults) e.told)
  where
    raised : (before after : ℕ) → after ≡ one_more before → Rose before after
    raised before after e = omega arith

without_shape : (e : HostEnd) (h : Happened) (line : Line) → IsLine h.words line → LacksShape e line h.old.folder h.new.folder → h.new.link ≡ h.old.link → WhenIs (of_end e) h
without_shape H.NoWords h line is f same = absurd f
without_shape H.Unread h line is f same = ((line, is, ByFault f (read_rose line h.old.folder h.new.folder f)), same)
without_shape H.Missing h line is f same = ((line, is, ByAbsence f), same)
without_shape H.TooBig h line is f same = ((line, is, ByLength f), same)
without_shape H.Broken h line is f same = ((line, is, f), same)
without_shape H.Unknown h line is f same = absurd f
without_shape (H.Served end) h line is f same = absurd f
without_shape H.Memory h line is f same = inr (line, is, BeforeCalls f same)

served : (end : ServeEnd) (h : Happened) (line : Line) (shape : Shape) → IsLine h.words line → IsRead line shape h.old.folder h.new.folder →
    ServesShape end shape h.old.link h.new.link → WhenIs (of_serve end) h
served E.Freed h line shape is read s = (line, is, record { shape = shape; read = read; end = E.Freed; so = inl refl; serves = s })
served E.Ended h line shape is read s = (line, is, record { shape = shape; read = read; end = E.Ended; so = inr refl; serves = s })
served (E.BadFrame at) h line shape is read s = (line, is, record { shape = shape; read = read; end = E.BadFrame at; so = (at, refl); serves = s })
served (E.NotPermitted call) h line shape is read s = (line, is, record { shape = shape; read = read; end = E.NotPermitted call; so = (call, refl); serves = s })
served E.Failed h line shape is read s = (
  (line, is, record { shape = shape; read = read; end = E.Failed; so = refl; serves = s }),
  lost s.model shape (scene h.old.link.input h.old.link.output (first_view s.model shape)) (scene h.new.link.input h.new.link.output s.machine) (first_told s.model shape) s.calm s.serves,
)
served E.TooMany h line shape is read s = (line, is, record { shape = shape; read = read; end = E.TooMany; so = refl; serves = s })
served E.Memory h line shape is read s = inr (line, is, AfterCalls (record { shape = shape; read = read; end = E.Memory; so = refl; serves = s }))

with_shape : (e : HostEnd) (h : Happened) (line : Line) (shape : Shape) → IsLine h.words line → IsRead line shape h.old.folder h.new.folder →
    ShapeFacts e shape h.old.link h.new.link → WhenIs (of_end e) h
with_shape H.NoWords h line shape is read f = absurd f
with_shape H.Unread h line shape is read f = absurd f
with_shape H.Missing h line shape is read f = absurd f
with_shape H.TooBig h line shape is read f = absurd f
with_shape H.Broken h line shape is read f = absurd f
with_shape H.Unknown h line shape is read f = ((line, is, (shape, read, f.0)), f.1)
with_shape (H.Served end) h line shape is read f = served end h line shape is read f
with_shape H.Memory h line shape is read f = inr (line, is, BeforeCalls (inl (Ok read.bytes, read.got.reads)) f)

when_end : (e : HostEnd) (h : Happened) → HasFacts e h → WhenIs (of_end e) h
when_end e h (Unbegun is same) = subst (λ x. WhenIs (of_end x) h) (sym is) (inl same)
when_end e h (WithoutLine is none same) = subst (λ x. WhenIs (of_end x) h) (sym is) (none, same)
when_end e h (WithoutShape line is f same) = without_shape e h line is f same
when_end e h (WithShape line shape is read f) = with_shape e h line shape is read f

pub when_is : (s : Status) (e : HostEnd) (h : Happened) → HasFacts e h → h.status ≡ status_of e → h.status ≡ number s → WhenIs s h
when_is s e h f status is = subst (λ x. WhenIs x h) (same_number (of_end e) s (sym (numbered e) ∙ sym status ∙ is)) (when_end e h f)
