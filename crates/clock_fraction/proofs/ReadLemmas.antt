-- The digits of a text as they are read: without the zeros at their end, and cut off far above the limits.
use Rattle.std.proofs.Common.{◌≡◌, ◌≢◌, ℕ, ◌+◌, ◌-◌, ◌*◌, ◌%◌, ◌^◌, ◌<◌, min, List, ◌++◌, length, take, ap, ◌∙◌, arith}
use Rattle.std.specs.Str.Parse.{digits_value, digits_value_after}
use Rattle.clock_fraction.proofs.DigitLemmas.{min-digits_value_after}
use Rattle.clock_fraction.proofs.CutLemmas.{IsRead}

-- the digits that are read, up to the last of the whole part and the last of the places
abbrev pub prefix_of : List ℕ → List ℕ → ℕ → ℕ → ℕ
prefix_of whole places prefix kept = digits_value_after 10 (digits_value_after 10 0 (take prefix whole)) (take kept places)

pub is_read : (whole places power : List ℕ) (prefix kept first second tens : ℕ) → digits_value 10 (whole ++ places) ≡ prefix_of whole places prefix kept * 10 ^ (length places - kept + (length whole - prefix)) → (prefix_of whole places prefix kept ≢ 0 → prefix_of whole places prefix kept % 10 ≢ 0) → first ≡ min (digits_value_after 10 0 (take prefix whole)) (2 ^ 100) → second ≡ min (digits_value_after 10 first (take kept places)) (2 ^ 100) → tens ≡ min (digits_value_after 10 0 power) (2 ^ 100) → length whole < 2 ^ 64 → length places < 2 ^ 64 → IsRead (digits_value 10 (whole ++ places)) (prefix_of whole places prefix kept) (length places - kept + (length whole - prefix)) (length places) (digits_value 10 power) second tens
is_read whole places power prefix kept first second tens zeros lasts is_first is_second is_tens short_whole short_places = record {
  number_is = zeros;
  lasts = lasts;
  few_zeros = omega arith;
  few_places = short_places;
  prefix_is = is_second ∙ ap (λ x. min (digits_value_after 10 x (take kept places)) (2 ^ 100)) is_first ∙ min-digits_value_after (digits_value_after 10 0 (take prefix whole)) (2 ^ 100) (take kept places);
  power_is = is_tens;
}
