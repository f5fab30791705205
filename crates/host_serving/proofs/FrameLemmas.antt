-- Bytes that are taken one part after another.
use Rattle.std.proofs.Common.{◌≡◌, ℕ, ◌+◌, ◌≤◌, List, [], ◌++◌, length, take, Option, Some, None, refl, sym, ap, ◌∙◌, append_assoc}
use Rattle.std.specs.Io.KnownBytes.{Consumes}
use Rattle.sim_base.specs.Source.{SourceView}
use Rattle.host_serving.specs.Frames.{Gains, Takes}
use Rattle.std.proofs.Common.{◌-◌, arith, subst, length-append, length-take}
use Rattle.std.proofs.Math.Seq.{take-append-add}
use Rattle.std.proofs.lemmas.List.{take-take, take-append-le, take_all}
use Rattle.std.proofs.lemmas.Slice.{take-put_mid}
use Rattle.std.specs.Prelude.{Ok}
use Rattle.sim_base.specs.Source.{NotesTake}
use borrow.Rule.Slice.PartMut.{put_mid}

consumes_more : (a b c : Option (List ℕ)) (xs ys : List ℕ) → Consumes a b xs → Consumes b c ys → Consumes a c (xs ++ ys)
consumes_more None b c xs ys h k = tt
consumes_more (Some a) None c xs ys h k = absurd h
consumes_more (Some a) (Some b) None xs ys h k = absurd k
consumes_more (Some a) (Some b) (Some c) xs ys h k = h ∙ ap (λ l. xs ++ l) k ∙ sym (append_assoc xs ys c)

-- one part after another
pub takes_more : (a b c : SourceView) (xs ys : List ℕ) → Takes a b xs → Takes b c ys → Takes a c (xs ++ ys)
takes_more a b c xs ys h k = record { taken = consumes_more a.left b.left c.left xs ys h.taken k.taken; quiet = k.quiet ∙ h.quiet }

consumes-nil : (a : Option (List ℕ)) → Consumes a a []
consumes-nil None = tt
consumes-nil (Some xs) = refl

-- nothing was taken yet
pub takes_none : (a : SourceView) → Takes a a []
takes_none a = record { taken = consumes-nil a.left; quiet = refl }

-- the start of the room once a part after a place is written
pub part_written : (into part : List ℕ) (count size n : ℕ) → count ≤ length into → n ≤ length part → take (count + n) (put_mid count size into part) ≡ take count into ++ take n part
part_written into part count size n within few =
    let whole : take (count + length part) (put_mid count size into part) ≡ take count into ++ part = take-put_mid count size into part (count + length part) refl within in
    let long : length (take count into) ≡ count = length-take count into ∙ omega (arith, within) in
    sym (take-take (count + n) (count + length part) (put_mid count size into part) (omega (arith, few)))
    ∙ ap (take (count + n)) whole ∙ ap (λ (m : ℕ). take (m + n) (take count into ++ part)) (sym long) ∙ take-append-add (take count into) part n

-- all that comes after the place
pub prefix_more : (into part : List ℕ) (count n : ℕ) → count ≤ length into → n ≤ length part → take (count + n) (put_mid count (length into - count) into part) ≡ take count into ++ take n part
prefix_more into part count n within few = part_written into part count (length into - count) n within few

room_more : (into part : List ℕ) (count n : ℕ) → count ≤ length into → n ≤ length part → count + n ≤ length (put_mid count (length into - count) into part)
room_more into part count n within few =
    let whole = ap length (prefix_more into part count n within few) in
    let a = length-append (take count into) (take n part) in
    let b = length-take count into in
    let c = length-take n part in
    let d = length-take (count + n) (put_mid count (length into - count) into part) in
    omega (arith, whole, a, b, c, d, within, few)

-- one take more
pub filled_more : {E : Type 0} (before now after : SourceView) (into part : List ℕ) (count n : ℕ) → count ≤ length into → Takes before now (take count into) → NotesTake {E = E} now after part (Ok n)
    → (count + n ≤ length (put_mid count (length into - count) into part)) × Takes before after (take (count + n) (put_mid count (length into - count) into part))
filled_more before now after into part count n within so takes =
    let one : Takes now after (take n part) = record { taken = takes.taken.0; quiet = takes.counted } in (
      room_more into part count n within takes.within,
      subst (Takes before after) (sym (prefix_more into part count n within takes.within)) (takes_more before now after (take count into) (take n part) so one),
    )

-- one part of a state more
pub gained : (before now after : SourceView) (old new : List ℕ) (room count : ℕ) → Takes before now old → Gains now after old new room count → Takes before after new
gained before now after old new room count so gains = subst (Takes before after) (sym gains.joined) (takes_more before now after old gains.part so gains.takes)

pub gained_size : (now after : SourceView) (old new : List ℕ) (room count : ℕ) → Gains now after old new room count → length new ≡ length old + count
gained_size now after old new room count gains =
    let whole = ap length gains.joined ∙ length-append old gains.part in let size = gains.size in omega (arith, whole, size)

-- the beginning of a frame stays where there is room after it
pub resized : (old new head rest : List ℕ) (n : ℕ) → old ≡ head → new ≡ take n old ++ rest → length head ≡ 24 → 24 ≤ n → take 24 new ≡ head
resized old new head rest n same e long many =
    let all : take n old ≡ head = ap (take n) same ∙ take_all n head (omega (arith, long, many)) in
    ap (take 24) (e ∙ ap (λ l. l ++ rest) all) ∙ take-append-le 24 head rest (omega (arith, long)) ∙ take_all 24 head (omega (arith, long))

-- what was copied to the start of the room
pub copied : (room part : List ℕ) (size : ℕ) → length part ≡ 24 → take 24 (put_mid 0 size room part) ≡ part
copied room part size long = take-put_mid 0 size room part 24 (omega (arith, long)) (omega arith)

-- and a part that was written after it
pub written_after : (room first part : List ℕ) (size n : ℕ) → take 24 room ≡ first → 24 ≤ length room → n ≤ length part → take (24 + n) (put_mid 24 size room part) ≡ first ++ take n part
written_after room first part size n prefix within few = part_written room part 24 size n within few ∙ ap (λ (xs : List ℕ). xs ++ take n part) prefix
