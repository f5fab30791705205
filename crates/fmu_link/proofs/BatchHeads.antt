-- What comes after a batch in two parts: a head, and so many frames as it counts.
use Rattle.std.proofs.Common.{◌≡◌, ℕ, ◌+◌, ◌-◌, ◌*◌, ◌≤◌, inl, inr, List, ◌++◌, append_assoc, length, take, drop, arith, refl, sym, ap, ◌∙◌, subst, Some, None, Option, length-append, length-drop}
use Rattle.std.specs.Option.{option_map}
use Rattle.std.proofs.lemmas.List.{length-take, take_at}
use Rattle.std.proofs.lemmas.Slice.{take-put_mid}
use Rattle.link_frames.specs.Batch.{IsHeadOf}
use Rattle.fmu_link.specs.Batches.{ArrivesAll, IsAskedFor}
use Rattle.fmu_link.specs.Wire.{WireView, with_prefix, with_sent}
use borrow.Rule.Slice.PartMut.{put_mid}

prefixes_joined : (a b : List ℕ) (view : WireView) → with_prefix a (with_prefix b view) ≡ with_prefix (a ++ b) view
prefixes_joined a b view = ap (λ (o : Option (List ℕ)). record view { coming = o }) (by view.coming)
  where
    by : (o : Option (List ℕ)) → option_map (λ (rest : List ℕ). a ++ rest) (option_map (λ (rest : List ℕ). b ++ rest) o) ≡ option_map (λ (rest : List ℕ). (a ++ b) ++ rest) o
    by None = refl
    by (Some rest) = ap Some (sym (append_assoc a b rest))

module _ (room part head : List ℕ) (size : length room ≡ 1560) (long : length head ≡ 24) (is_head : part ≡ head) where
  whole_head : length part ≡ 24
  whole_head = ap length is_head ∙ long

  head_in : take 24 (part ++ drop 24 room) ≡ head
  head_in = take_at part (drop 24 room) 24 whole_head ∙ is_head

  room_left : 24 ≤ length (part ++ drop 24 room)
  room_left = let whole = whole_head in omega (arith, whole, length-append part (drop 24 room))

  -- and after it the rest
  both_in : (rest : List ℕ) (end : ℕ) → end ≡ 24 + length rest → take end (put_mid 24 (end - 24) (part ++ drop 24 room) rest) ≡ head ++ rest
  both_in rest end all = take-put_mid 24 (end - 24) (part ++ drop 24 room) rest end all room_left ∙ ap (λ (xs : List ℕ). xs ++ rest) head_in

  -- what came where the head was all
  pub alone_arrives : (old sent mid : WireView) (batch : List ℕ) → sent ≡ with_sent old batch → sent ≡ with_prefix head mid → ArrivesAll old batch (take 24 (part ++ drop 24 room)) mid
  alone_arrives old sent mid batch is came = subst (λ (bytes : List ℕ). ArrivesAll old batch bytes mid) (sym head_in) (sym is ∙ came)

  pub alone_asked : ((count : ℕ) → IsHeadOf count head → ⊥) → IsAskedFor (take 24 (part ++ drop 24 room))
  alone_asked none = subst IsAskedFor (sym head_in) (inl (long, none))

  -- and where more came after it
  pub both_arrive : (old sent mid new : WireView) (batch rest : List ℕ) (end : ℕ) → end ≡ 24 + length rest → sent ≡ with_sent old batch → sent ≡ with_prefix head mid → mid ≡ with_prefix rest new →
      ArrivesAll old batch (take end (put_mid 24 (end - 24) (part ++ drop 24 room) rest)) new
  both_arrive old sent mid new batch rest end all is came second =
      subst (λ (bytes : List ℕ). ArrivesAll old batch bytes new) (sym (both_in rest end all))
      (sym is ∙ came ∙ ap (λ (w : WireView). with_prefix head w) second ∙ prefixes_joined head rest new)

  pub both_asked : (rest : List ℕ) (end count : ℕ) → end ≡ 24 + length rest → end ≡ 24 * (count + 1) → IsHeadOf count head → IsAskedFor (take end (put_mid 24 (end - 24) (part ++ drop 24 room) rest))
  both_asked rest end count all end_is is =
      subst IsAskedFor (sym (both_in rest end all))
      (inr (count, subst (IsHeadOf count) (sym (take_at head rest 24 long)) is, omega (arith, long, all, end_is, length-append head rest)))

  -- the room after the head, up to a place
  pub rest_long : (rest : List ℕ) (end : ℕ) → 24 ≤ end → end ≤ 1560 → length rest ≡ length (take (end - 24) (drop 24 (part ++ drop 24 room))) → end ≡ 24 + length rest
  rest_long rest end ge le is =
      let whole = whole_head in
      let all = length-append part (drop 24 room) in
      let after = length-drop 24 room in
      let from = length-drop 24 (part ++ drop 24 room) in
      let prefix = length-take (end - 24) (drop 24 (part ++ drop 24 room)) in
      omega (arith, whole, all, after, from, prefix, size, ge, le, is)
