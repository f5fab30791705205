-- What was walked can be walked to its end: 0 is a value of each type.
use Rattle.std.proofs.Common.{arith, ◌≡◌, refl, ap, ◌∙◌, ℕ, ◌+◌, pos, List, [], ◌∷◌, ◌++◌, length, Option, Some, drop, slice_get, ◌&&◌, ◌==◌, true, false, nat_le}
use Rattle.std.specs.Option.{option_and_then, option_map_or}
use Rattle.std.proofs.lemmas.Bool.{le-leb, eq-eqb}
use Rattle.value_types.specs.declared.values.PortType.{PortType}
use Rattle.value_types.specs.declared.values.PortType.TheVariants.{Int8, UInt8, Int16, UInt16, Int32, UInt32, Int64, UInt64, Boolean, Enumeration, Clock}
use Rattle.value_types.specs.Values.{is_fitting}
use Rattle.system_model.specs.declared.plan.EndKind.{EndKind}
use Rattle.system_model.specs.declared.plan.EndKind.TheVariants.{Stop}
use Rattle.trace_reading.specs.declared.trace.TraceLine.TheVariants.{Value}
use Rattle.trace_reading.specs.declared.item.Item.{Item}
use Rattle.trace_reading.specs.declared.item.Item.TheVariants.{Row, End}
use Rattle.trace_reading.specs.declared.item.Place.{Place}
use Rattle.trace_reading.specs.declared.item.Place.TheVariants.{Between, Within, Ended}
use Rattle.trace_reading.specs.Walk.{walk, place_after, is_next, is_closed, fits_at, clocks_before}
use Rattle.trace_reading.proofs.ListLemmas.{both, one_more}
use Rattle.trace_reading.proofs.BodyLemmas.{none_left}
use Rattle.trace_reading.proofs.FaultLemmas.{stepped}

zero_fits : (kind : PortType) → is_fitting kind (pos 0) ≡ true
zero_fits Int8 = refl
zero_fits UInt8 = refl
zero_fits Int16 = refl
zero_fits UInt16 = refl
zero_fits Int32 = refl
zero_fits UInt32 = refl
zero_fits Int64 = refl
zero_fits UInt64 = refl
zero_fits Boolean = refl
zero_fits Enumeration = refl
zero_fits Clock = refl

zero_next : (kinds : List PortType) (kind : PortType) (k : ℕ) → slice_get kinds k ≡ Some kind → is_next kinds k k (pos 0) ≡ true
zero_next kinds kind k at =
    let fitted : fits_at kinds k (pos 0) ≡ true = ap (λ (o : Option PortType). option_map_or (λ (p : PortType). is_fitting p (pos 0)) o false) at ∙ zero_fits kind in
    both (nat_le k k) (fits_at kinds k (pos 0) && clocks_before kinds k == clocks_before kinds k) (le-leb k k (omega arith)) (both (fits_at kinds k (pos 0)) (clocks_before kinds k == clocks_before kinds k) fitted (eq-eqb (clocks_before kinds k) (clocks_before kinds k) refl))

-- it can be walked to an end
pub record Ends (kinds : List PortType) (place : Place) : Type 0 where
  pub more : List Item
  pub kind : EndKind
  pub point : ℕ
  pub good : walk kinds place more ≡ Some (Ended kind point)

zero_ends : (kinds ks : List PortType) (k : ℕ) → drop k kinds ≡ ks → Ends kinds (Within k)
zero_ends kinds [] k e =
    let closed : is_closed kinds (Within k) ≡ true = eq-eqb (clocks_before kinds k) (clocks_before kinds (length kinds)) (none_left kinds k e) in
    record { more = End Stop 0 ∷ []; kind = Stop; point = 0; good = rw closed refl }
zero_ends kinds (kind ∷ ks) k e =
    let at = one_more kinds ks k kind e in
    let left = zero_ends kinds ks (k + 1) at.0 in
    record { more = Row (Value k (pos 0)) ∷ left.more; kind = left.kind; point = left.point; good = rw (zero_next kinds kind k at.1) left.good }

ends : (kinds : List PortType) (place : Place) → Ends kinds place
ends kinds Between = record { more = End Stop 0 ∷ []; kind = Stop; point = 0; good = refl }
ends kinds (Within next) = zero_ends kinds (drop next kinds) next refl
ends kinds (Ended kind t) = record { more = []; kind = kind; point = t; good = refl }

walk_on : (kinds : List PortType) (place last : Place) (end : Option Place) (before more : List Item) → walk kinds place before ≡ Some last → walk kinds last more ≡ end → walk kinds place (before ++ more) ≡ end
walk_on kinds place last end [] more good rest =
    let same : Some place ≡ Some last = good in
    ap (λ (o : Option Place). option_and_then (λ (p : Place). walk kinds p more) o) same ∙ rest
walk_on kinds place last end (b ∷ bs) more good rest =
    let s = stepped kinds (place_after kinds place b) bs last good in
    ap (λ (o : Option Place). option_and_then (λ (p : Place). walk kinds p (bs ++ more)) o) s.step ∙ walk_on kinds s.next last end bs more s.rest rest

-- what was walked begins a walk to an end
pub record Goes (kinds : List PortType) (before : List Item) : Type 0 where
  pub more : List Item
  pub kind : EndKind
  pub point : ℕ
  pub good : walk kinds Between (before ++ more) ≡ Some (Ended kind point)

pub goes_on : (kinds : List PortType) (before : List Item) (last : Place) → walk kinds Between before ≡ Some last → Goes kinds before
goes_on kinds before last good =
    let e = ends kinds last in
    record { more = e.more; kind = e.kind; point = e.point; good = walk_on kinds Between last (Some (Ended e.kind e.point)) before e.more good e.good }
