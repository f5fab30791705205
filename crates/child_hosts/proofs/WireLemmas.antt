-- What a wire over a reader and a writer tells after it has sent or received.
use Rattle.std.proofs.Common.{◌≡◌, ℕ, List, [], ◌++◌, length, take, drop, Option, Some, None, refl, sym, ap, ◌∙◌, subst, arith, append_assoc, append-nil}
use Rattle.std.specs.Prelude.{Err, is_some}
use Rattle.std.specs.Io.KnownBytes.{Consumes, Keeps}
use Rattle.std.proofs.Math.Seq.{drop-append_seam}
use Rattle.sim_base.specs.Causes.{one_more}
use Rattle.sim_base.specs.Sink.{SinkView, with_piece}
use Rattle.fmu_link.specs.Wire.{FallsShort, at_end, wire_view, with_fault, with_prefix, with_sent, without_prefix}
use Rattle.fmu_link.specs.declared.wire.WireFault.{WireFault}
use Rattle.fmu_link.specs.declared.wire.WireFault.TheVariants.{Ended, Failed}
use Rattle.child_hosts.specs.Filling.{Fills, RunsOut}

-- ---- sending

pub sent_whole : (old new : SinkView) (coming : Option (List ℕ)) (faults : ℕ) (bytes : List ℕ) → new ≡ with_piece old bytes →
    wire_view new.content coming faults ≡ with_sent (wire_view old.content coming faults) bytes
sent_whole old new coming faults bytes e = ap (λ (s : SinkView). wire_view s.content coming faults) e

-- ---- bytes that come piece by piece

pub consumes_none : (old : Option (List ℕ)) → Consumes old old []
consumes_none None = tt
consumes_none (Some xs) = refl

pub consumes_more : (old mid new : Option (List ℕ)) (a b : List ℕ) → Consumes old mid a → Consumes mid new b → Consumes old new (a ++ b)
consumes_more None mid new a b one two = tt
consumes_more (Some xs) None new a b one two = absurd one
consumes_more (Some xs) (Some ys) None a b one two = absurd two
consumes_more (Some xs) (Some ys) (Some zs) a b one two = one ∙ ap (λ l. a ++ l) two ∙ sym (append_assoc a b zs)

pub consumes_kept : (old mid new : Option (List ℕ)) (a : List ℕ) → Consumes old mid a → Keeps mid new → Consumes old new a
consumes_kept None mid new a one two = tt
consumes_kept (Some xs) None new a one two = absurd one
consumes_kept (Some xs) (Some ys) None a one two = absurd two
consumes_kept (Some xs) (Some ys) (Some zs) a one two = one ∙ ap (λ l. a ++ l) (sym two)

-- why a room wasn't filled
pub fills_ended : (T : Type 0) (old new : Option (List ℕ)) (into : List ℕ) (fault : WireFault) → fault ≡ Ended → Fills {T = T} old new into (Err fault) → RunsOut old new into
fills_ended T old new into fault is h = subst (λ (f : WireFault). Fills {T = T} old new into (Err f)) is h

pub fills_failed : (T : Type 0) (old new : Option (List ℕ)) (into : List ℕ) (fault : WireFault) → fault ≡ Failed → Fills {T = T} old new into (Err fault) →
    (n : ℕ) × Consumes old new (take n into)
fills_failed T old new into fault is h = subst (λ (f : WireFault). Fills {T = T} old new into (Err f)) is h

-- ---- receiving, from a reader that tells its bytes at all times or at none

pub received_whole : (old new sent : Option (List ℕ)) (faults : ℕ) (into : List ℕ) → is_some old ≡ is_some new → Consumes old new into →
    wire_view sent old faults ≡ with_prefix into (wire_view sent new faults)
received_whole None None sent faults into steady taken = refl
received_whole None (Some ys) sent faults into steady taken = cc
received_whole (Some xs) None sent faults into steady taken = absurd taken
received_whole (Some xs) (Some ys) sent faults into steady taken = ap (λ (l : List ℕ). wire_view sent (Some l) faults) taken

all_gone : (xs last ys : List ℕ) → xs ≡ last ++ ys → ys ≡ [] → length xs ≡ length last
all_gone xs last ys e end = ap length (e ∙ ap (λ l. last ++ l) end ∙ append-nil last)

pub received_less : (old new sent : Option (List ℕ)) (faults : ℕ) (into : List ℕ) → is_some old ≡ is_some new → RunsOut old new into →
    FallsShort old into × (wire_view sent new faults ≡ at_end (wire_view sent old faults))
received_less None None sent faults into steady out = let short = out.short in (omega (arith, short), refl)
received_less None (Some ys) sent faults into steady out = cc
received_less (Some xs) None sent faults into steady out = absurd out.gone
received_less (Some xs) (Some ys) sent faults into steady out =
    let short = out.short in
    let same = all_gone xs out.last ys out.gone out.end in
    (omega (arith, short, same), ap (λ (l : List ℕ). wire_view sent (Some l) faults) out.end)

pub received_part : (old new sent : Option (List ℕ)) (faults : ℕ) (part : List ℕ) → is_some old ≡ is_some new → Consumes old new part →
    wire_view sent new (one_more faults) ≡ with_fault (without_prefix (length part) (wire_view sent old faults))
received_part None None sent faults part steady taken = refl
received_part None (Some ys) sent faults part steady taken = cc
received_part (Some xs) None sent faults part steady taken = absurd taken
received_part (Some xs) (Some ys) sent faults part steady taken =
    ap (λ (l : List ℕ). wire_view sent (Some l) (one_more faults)) (sym (ap (drop (length part)) taken ∙ drop-append_seam part ys))
