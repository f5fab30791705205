-- Frames of values that are made from other values with the same bytes.
use Rattle.std.proofs.Common.{ℕ, ◌+◌, List, ◌++◌, take, refl, sym, ap, ◌∙◌}
use Rattle.exact_parts.specs.declared.taken.Taken.{Taken}
use Rattle.exact_parts.specs.declared.taken.Taken.TheVariants.{Got, NeedMore, Bad}
use Rattle.exact_parts.specs.Each.{Made, remade}
use Rattle.exact_parts.specs.Taking.{Takes, AreSingle, Breaks, Gets, IsPrefix}

-- the frames of the one are those of the other
pub record Same {V W : Type 0} (frame : V → List ℕ → Type 0) (make : V → W) (made : W → List ℕ → Type 0) : Type 0 where
  pub to : (v : V) (bytes : List ℕ) → frame v bytes → made (make v) bytes
  pub from : (w : W) (bytes : List ℕ) → made w bytes → Made frame make w bytes

pub made_got : {V W : Type 0} (frame : V → List ℕ → Type 0) (make : V → W) (made : W → List ℕ → Type 0) (same : Same frame make made) (bytes : List ℕ) (v : V) (size : ℕ) → Gets frame bytes v size → Gets made bytes (make v) size
made_got frame make made same bytes v size g = record { within = g.within; spelled = same.to v (take size bytes) g.spelled }

pub made_prefix : {V W : Type 0} (frame : V → List ℕ → Type 0) (make : V → W) (made : W → List ℕ → Type 0) (same : Same frame make made) (bytes : List ℕ) → IsPrefix frame bytes → IsPrefix made bytes
made_prefix frame make made same bytes f = record { value = make f.value; more = f.more; spelled = same.to f.value (bytes ++ f.more) f.spelled; goes_on = f.goes_on }

pub made_breaks : {V W : Type 0} (frame : V → List ℕ → Type 0) (make : V → W) (made : W → List ℕ → Type 0) (same : Same frame make made) (bytes : List ℕ) (at : ℕ) → Breaks frame bytes at → Breaks made bytes at
made_breaks frame make made same bytes at b = record {
  within = b.within;
  prefix = made_prefix frame make made same (take at bytes) b.prefix;
  none = λ p. let s = same.from p.value (take (at + 1) bytes ++ p.more) p.spelled in b.none (record { value = s.value; more = p.more; spelled = s.spelled });
}

pub made_single : {V W : Type 0} (frame : V → List ℕ → Type 0) (make : V → W) (made : W → List ℕ → Type 0) (same : Same frame make made) → AreSingle frame → AreSingle made
made_single frame make made same single v w bytes more p q =
    let a = same.from v bytes p in
    let b = same.from w (bytes ++ more) q in
    let one = single a.value b.value bytes more a.spelled b.spelled in
    (a.is ∙ ap make one.0 ∙ sym b.is, one.1)

-- two relations of the same values
pub same_takes : {V : Type 0} (frame other : V → List ℕ → Type 0) (same : Same frame (λ (v : V). v) other) (bytes : List ℕ) (taken : Taken V) → Takes frame bytes taken → Takes other bytes taken
same_takes {V} frame other same bytes (Got v size) h = made_got frame (λ (v : V). v) other same bytes v size h
same_takes {V} frame other same bytes NeedMore h = made_prefix frame (λ (v : V). v) other same bytes h
same_takes {V} frame other same bytes (Bad at) h = made_breaks frame (λ (v : V). v) other same bytes at h

-- ---- values that are made from others

made_same : {V W : Type 0} (frame : V → List ℕ → Type 0) (make : V → W) → Same frame make (Made frame make)
made_same frame make = record { to = λ v bytes s. record { value = v; is = refl; spelled = s }; from = λ w bytes s. s }

pub kept_single : {V W : Type 0} (frame : V → List ℕ → Type 0) (make : V → W) → AreSingle frame → AreSingle (Made frame make)
kept_single frame make single = made_single frame make (Made frame make) (made_same frame make) single

pub kept_takes : {V W : Type 0} (frame : V → List ℕ → Type 0) (make : V → W) (bytes : List ℕ) (taken : Taken V) → Takes frame bytes taken → Takes (Made frame make) bytes (remade make taken)
kept_takes frame make bytes (Got v size) h = made_got frame make (Made frame make) (made_same frame make) bytes v size h
kept_takes frame make bytes NeedMore h = made_prefix frame make (Made frame make) (made_same frame make) bytes h
kept_takes frame make bytes (Bad at) h = made_breaks frame make (Made frame make) (made_same frame make) bytes at h
