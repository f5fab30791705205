-- What is read of a reader up to a limit.
use Rattle.std.proofs.Common.{◌≡◌, ℕ, ◌+◌, ◌-◌, ◌^◌, ◌<◌, ◌≤◌, min, List, length, take, Option, Some, None, sym, ap, ◌∙◌, subst, arith, length-take, inl, inr}
use Rattle.std.proofs.lemmas.Bool.{cases_lt}
use Rattle.std.proofs.lemmas.List.{take_all}
use Rattle.std.specs.Prelude.{IfSome, Result, Ok, Err, Vec}
use Rattle.std.specs.declared.alloc.Global.{Global}
use Rattle.std.specs.declared.io.ErrorKind.{ErrorKind}
use Rattle.std.specs.declared.io.ErrorKind.TheVariants.{OutOfMemory}
use Rattle.sim_base.specs.declared.folder.ReadFault.{ReadFault}
use Rattle.sim_base.specs.declared.folder.ReadFault.TheVariants.{Failed, Memory, Missing, TooBig}
use Rattle.host_edge.specs.Reading.{ReadsWithin, FileView, after_error, unread}

-- one byte past the limit is read, so that no more than the limit is all
pub all_read : (left got : List ℕ) (limit : ℕ) → got ≡ take (min (limit + 1) (2 ^ 64 - 1)) left → length got < 2 ^ 63 → length got ≤ limit → (got ≡ left) × (length left ≤ limit)
all_read left got limit e short h =
    let n = min (limit + 1) (2 ^ 64 - 1) in
    let count : length got ≡ min n (length left) = ap length e ∙ length-take n left in
    let whole : length left ≤ n = omega arith in
    (e ∙ take_all n left whole, omega arith)

pub more_read : (left got : List ℕ) (limit : ℕ) → got ≡ take (min (limit + 1) (2 ^ 64 - 1)) left → limit < length got → (limit < length left) × (length got ≡ limit + 1)
more_read left got limit e h =
    let n = min (limit + 1) (2 ^ 64 - 1) in
    let count : length got ≡ min n (length left) = ap length e ∙ length-take n left in
    (omega arith, omega arith)

-- the answer to what was read
pub read_told : (old new : FileView) (limit : ℕ) (got : Vec ℕ Global) (answer : Result (Vec ℕ Global) ReadFault)
    → IfSome old.left (λ left. got.items ≡ take (min (limit + 1) (2 ^ 64 - 1)) left) → new.errors ≡ old.errors
    → (length got.items ≤ limit → answer ≡ Ok got) → (limit < length got.items → answer ≡ Err (TooBig (length got.items)))
    → ReadsWithin old new limit answer
read_told old new limit got answer read same fits big =
    let short : length got.items < 2 ^ 63 = (let a = got.ok in let b = got.small in omega arith) in
    elim (cases_lt limit (length got.items)) [
      | inl lt ↦ subst (ReadsWithin old new limit) (sym (big lt)) (more old.left read lt, same)
      | inr le ↦ subst (ReadsWithin old new limit) (sym (fits le)) (all old.left read short le, same)
    ]
  where
    more : (left : Option (List ℕ)) → IfSome left (λ xs. got.items ≡ take (min (limit + 1) (2 ^ 64 - 1)) xs) → limit < length got.items → IfSome left (λ xs. (limit < length xs) × (length got.items ≡ limit + 1))
    more None e lt = tt
    more (Some xs) e lt = more_read xs got.items limit e lt

    all : (left : Option (List ℕ)) → IfSome left (λ xs. got.items ≡ take (min (limit + 1) (2 ^ 64 - 1)) xs) → length got.items < 2 ^ 63 → length got.items ≤ limit → IfSome left (λ xs. (got.items ≡ xs) × (length xs ≤ limit))
    all None e short le = tt
    all (Some xs) e short le = all_read xs got.items limit e short le

-- an error is one of these
pub read_failed : (old new : FileView) (limit : ℕ) (kind : ErrorKind) → new.errors ≡ after_error old kind → (fault : ReadFault) → fault ≡ unread kind → ReadsWithin old new limit (Err fault)
read_failed old new limit kind told Failed e = (kind, told, e)
read_failed old new limit kind told Memory e = (kind, told, e)
read_failed old new limit kind told Missing e = absurd (never kind e)
  where
    never : (k : ErrorKind) → Missing ≡ unread k → ⊥
    never OutOfMemory e = cc
    never _ e = cc
read_failed old new limit kind told (TooBig n) e = absurd (never kind e)
  where
    never : (k : ErrorKind) → TooBig n ≡ unread k → ⊥
    never OutOfMemory e = cc
    never _ e = cc
