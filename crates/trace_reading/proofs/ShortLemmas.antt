-- An item that has a place has numbers of 64 bits.
use Rattle.std.proofs.Common.{arith, ◌≡◌, refl, ℕ, ◌+◌, ◌^◌, ◌<◌, ℤ, List, Some, None, length, slice_get, ◌&&◌, ◌==◌, Bool, true, false, cond, nat_le, nat_lt}
use Rattle.std.proofs.lemmas.Bool.{leb-true, ltb-true}
use Rattle.std.proofs.lemmas.Option.{slice_get_within}
use Rattle.value_types.specs.declared.values.PortType.{PortType}
use Rattle.trace_reading.specs.declared.trace.TraceLine.TheVariants.{At, Value}
use Rattle.trace_reading.specs.declared.item.Item.{Item}
use Rattle.trace_reading.specs.declared.item.Item.TheVariants.{Row, End}
use Rattle.trace_reading.specs.declared.item.Place.{Place}
use Rattle.trace_reading.specs.declared.item.Place.TheVariants.{Between, Within, Ended}
use Rattle.trace_reading.specs.Walk.{place_after, is_next, is_closed, is_start, fits_at, clocks_before, IsShortItem}
use Rattle.trace_reading.specs.Lines.{IsShort}
use Rattle.trace_reading.proofs.ListLemmas.{parts}
use Rattle.trace_reading.proofs.FitLemmas.{fitting_at, fits_short}

tested : (b : Bool) (x q : Place) → cond b (Some x) None ≡ Some q → b ≡ true
tested true x q e = refl
tested false x q e = absurd (cc e)

begin_short : (closed : Bool) (t n : ℕ) → (closed && is_start t n) ≡ true → (t < 2 ^ 64) × (n < 2 ^ 64)
begin_short closed t n e =
    let first = parts closed (is_start t n) e in
    let limits = parts (nat_le t (2 ^ 62)) (nat_lt n 10000) first.1 in
    (omega (arith, leb-true t (2 ^ 62) limits.0), omega (arith, ltb-true n 10000 limits.1))

value_short : (kinds : List PortType) (next port : ℕ) (value : ℤ) → length kinds < 2 ^ 64 → is_next kinds next port value ≡ true → (port < 2 ^ 64) × IsShort value
value_short kinds next port value few e =
    let first = parts (nat_le next port) (fits_at kinds port value && clocks_before kinds next == clocks_before kinds port) e in
    let second = parts (fits_at kinds port value) (clocks_before kinds next == clocks_before kinds port) first.1 in
    let there = fitting_at kinds port value (slice_get kinds port) refl second.0 in
    (omega (arith, few, slice_get_within kinds port there.kind there.at), fits_short there.kind value there.fits)

-- what has a place is short
pub short_item : (kinds : List PortType) → length kinds < 2 ^ 64 → (p q : Place) (item : Item) → place_after kinds p item ≡ Some q → IsShortItem item
short_item kinds few p q (Row (At t n)) e = begin_short (is_closed kinds p) t n (tested (is_closed kinds p && is_start t n) (Within 0) q e)
short_item kinds few p q (End kind t) e =
    let tests = parts (is_closed kinds p) (nat_le t (2 ^ 62)) (tested (is_closed kinds p && nat_le t (2 ^ 62)) (Ended kind t) q e) in
    omega (arith, leb-true t (2 ^ 62) tests.1)
short_item kinds few Between q (Row (Value port value)) e = absurd (cc e)
short_item kinds few (Within next) q (Row (Value port value)) e = value_short kinds next port value few (tested (is_next kinds next port value) (Within (port + 1)) q e)
short_item kinds few (Ended k t) q (Row (Value port value)) e = absurd (cc e)
