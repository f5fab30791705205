-- Where a text ceases to be a prefix of a document, in bytes.
use Rattle.std.proofs.Common.{◌≡◌, ℕ, ◌<◌, ◌≤◌, Bool, true, false, cond, List, [], ◌∷◌, ◌++◌, length, ◌⊎◌, inl, inr, refl, sym, ap, ◌∙◌, subst, arith, append_assoc, eqb, eq-eqb}
use Rattle.std.proofs.lemmas.List.{append-nil}
use Rattle.std.proofs.lemmas.Bool.{cases_lt, eqb-true}
use Rattle.std.proofs.lemmas.Bool.Decides.{nat_tests}
use Rattle.std.specs.Str.{encode_utf8_all}
use Rattle.std.specs.Char.{encode_utf8, IsScalar}
use Rattle.doc_grammar.specs.Characters.{class, other_class}
use Rattle.doc_grammar.specs.Grammar.{Limits, strict, Event, Document, Begins}
use Rattle.doc_grammar.specs.declared.characters.Class.TheVariants.{Letter, Bad}
use Rattle.doc_grammar.specs.declared.reasons.Why.{Why}
use Rattle.doc_grammar.specs.declared.reasons.Why.TheVariants as w
use Rattle.doc_grammar.specs.Machine.{State, dead, go, along, guard, step, Leads, partly, step_after_byte_order_mark}
use Rattle.doc_grammar.specs.Machine as m
use Rattle.std.proofs.lemmas.Str.{encodes-append, encode_same, encode_ascii}
use Rattle.doc_grammar.specs.Faults.{IsDocument, BeginsOne, IsLongestOf}
use Rattle.doc_grammar.proofs.Classes.{high_class, bad_char}
use Rattle.doc_grammar.proofs.Bytes.{first_byte, ascii_of, apart}
use Rattle.doc_grammar.proofs.Keeps.{Keeps}
use Rattle.doc_grammar.proofs.Alike.{is_dead, IsWholly, Dead, dead_from, dead_alike}
use Rattle.doc_grammar.proofs.Tells.{TellsStart, TellsName, TellsBad}
use Rattle.doc_grammar.proofs.Lift.{lifted, lift_begins}
use Rattle.doc_grammar.proofs.Prefix as x

-- The bytes of c go on with the document along `prefix`, and with one more along no character.
pub record Cut (pc : List ℕ) (s : State) (c : ℕ) (y : Why) : Type 0 where
  pub prefix : List ℕ
  pub next : ℕ
  pub after : List ℕ
  pub is : encode_utf8 c ≡ prefix ++ next ∷ after
  pub begins : BeginsOne strict (encode_utf8_all pc ++ prefix)
  pub others : (l : Limits) → step l s (class c) c ≡ dead y → (a : ℕ) (v : List ℕ) → encode_utf8 a ≡ prefix ++ next ∷ v → Dead l s (class a) a

-- what begins some document, its prefixes begin
pub prefix_begins : (l : Limits) (p q : List ℕ) → BeginsOne l (p ++ q) → BeginsOne l p
prefix_begins l p q (rest, tree, d) = (q ++ rest, tree, subst (λ z. IsDocument l z tree) (append_assoc p q rest) d)

pub on_step : (l : Limits) (p : List ℕ) (b : ℕ) (s t : State) (o : List Event) → Leads l m.start p s o → step l s (class b) b ≡ go t → Begins l (p ++ b ∷ [])
on_step l p b s t o h e =
    x.lead_begins l (p ++ b ∷ []) t (o ++ []) (x.lead_lead l p m.start s t o [] (b ∷ []) h (subst (λ v. along (λ u o. Leads l u [] t o) v []) (sym e) (refl, refl)))

-- the bytes of one character more
pub one_more : (p : List ℕ) (b : ℕ) → encode_utf8_all (p ++ b ∷ []) ≡ encode_utf8_all p ++ encode_utf8 b
one_more p b = encodes-append p (b ∷ []) ∙ ap (λ z. encode_utf8_all p ++ z) (append-nil (encode_utf8 b))

-- a prefix of the bytes of a character that leads on
along_begins : (l : Limits) (p : List ℕ) (t : ℕ) (prefix other : List ℕ) → encode_utf8 t ≡ prefix ++ other → Begins l (p ++ t ∷ []) → BeginsOne l (encode_utf8_all p ++ prefix)
along_begins l p t prefix other e h =
    prefix_begins l (encode_utf8_all p ++ prefix) other (subst (λ z. BeginsOne l z) (one_more p t ∙ ap (λ z. encode_utf8_all p ++ z) e ∙ sym (append_assoc (encode_utf8_all p) prefix other)) (lift_begins l (p ++ t ∷ []) h))

unfoldable pub wholly_cut : (pc : List ℕ) (s : State) (o : List Event) (c : ℕ) (y : Why) → IsWholly y → Keeps s pc → Leads strict m.start pc s o → Cut pc s c y
wholly_cut pc s o c y i k h =
    let f = first_byte c in
    record {
      prefix = [];
      next = f.0;
      after = f.1;
      is = f.2;
      begins = subst (λ z. BeginsOne strict z) (sym (append-nil (encode_utf8_all pc))) (lift_begins strict pc (x.lead_begins strict pc s o h));
      others = λ l e a v q. dead_alike l s pc c a f.0 f.1 v y k i e f.2 q;
    }

-- a character that is not the only one that leads on
not_true : (t : Bool) → (t ≡ true → ⊥) → t ≡ false
not_true true h = absurd (h refl)
not_true false h = refl

differs : (a t : ℕ) (prefix v : List ℕ) (b : ℕ) → ((z : List ℕ) → encode_utf8 t ≡ prefix ++ b ∷ z → ⊥) → encode_utf8 a ≡ prefix ++ b ∷ v → eqb a t ≡ false
differs a t prefix v b p q = not_true (eqb a t) (λ h. p v (ap encode_utf8 (sym (eqb-true a t h)) ∙ q))

guard_false : (y : Why) (t : Bool) (s : State) → t ≡ false → is_dead (guard y t s) ≡ true
guard_false y true s e = cc
guard_false y false s e = refl

name_cut : (pc : List ℕ) (o : List Event) (c : ℕ) (ns : List (List ℕ)) (t : ℕ) (todo : List ℕ) (y : Why) → eqb c t ≡ false → Leads strict m.start pc (m.end_tag_name ns (t ∷ todo)) o → Cut pc (m.end_tag_name ns (t ∷ todo)) c y
name_cut pc o c ns t todo y e h =
    let d = apart t c e in
    let s = m.end_tag_name ns (t ∷ todo) in
    record {
      prefix = d.prefix;
      next = d.next;
      after = d.after;
      is = d.is;
      begins = along_begins strict pc t d.prefix d.other d.along (on_step strict pc t s (m.end_tag_name ns todo) o h (ap (λ z. guard (partly t t) z (m.end_tag_name ns todo)) (eq-eqb t t refl)));
      others = λ l f a v q. guard_false (partly t a) (eqb a t) (m.end_tag_name ns todo) (differs a t d.prefix v d.next d.parted q);
    }

low_char : (a : ℕ) (prefix v : List ℕ) (b : ℕ) → a < 128 → encode_utf8 a ≡ prefix ++ b ∷ v → b ≡ a
low_char a [] v b h e = let z = encode_ascii a h in cc
low_char a (x ∷ prefix) v b h e = let z = encode_ascii a h in absurd (none prefix v b (cc (z, e)))
  where
    none : (u v : List ℕ) (b : ℕ) → [] ≡ u ++ b ∷ v → ⊥
    none [] v b e = cc
    none (a ∷ u) v b e = cc

start_dead : (l : Limits) (a : ℕ) → 128 ≤ a → eqb a 65279 ≡ false → Dead l m.start (class a) a
start_dead l a h e = pick (eqb a 65279) e (high_class a h)
  where
    pick : (t : Bool) → t ≡ false → (class a ≡ Letter) ⊎ (class a ≡ Bad) → is_dead (cond t (go m.after_byte_order_mark) (step_after_byte_order_mark (partly 65279 a) (class a))) ≡ true
    pick true f k = cc
    pick false f (inl k) = ap (λ z. is_dead (step_after_byte_order_mark (partly 65279 a) z)) k
    pick false f (inr k) = ap (λ z. is_dead (step_after_byte_order_mark (partly 65279 a) z)) k

start_others : (l : Limits) (c a : ℕ) (prefix after v : List ℕ) (b : ℕ) (y : Why) → encode_utf8 c ≡ prefix ++ b ∷ after → encode_utf8 a ≡ prefix ++ b ∷ v → ((z : List ℕ) → encode_utf8 65279 ≡ prefix ++ b ∷ z → ⊥) → step l m.start (class c) c ≡ dead y → Dead l m.start (class a) a
start_others l c a prefix after v b y e q p f =
    elim (cases_lt b 128) [
      | inl lt ↦ let z : a ≡ c = ascii_of a prefix v b q lt ∙ sym (ascii_of c prefix after b e lt) in subst (λ n. Dead l m.start (class n) n) (sym z) (ap is_dead f)
      | inr le ↦ elim (cases_lt a 128) [
        | inl lt ↦ let z = low_char a prefix v b lt q in absurd (omega (arith, z, lt, le))
        | inr high ↦ start_dead l a high (differs a 65279 prefix v b p q)
      ]
    ]

start_cut : (pc : List ℕ) (o : List Event) (c : ℕ) (y : Why) → eqb c 65279 ≡ false → Leads strict m.start pc m.start o → Cut pc m.start c y
start_cut pc o c y e h =
    let d = apart 65279 c e in
    record {
      prefix = d.prefix;
      next = d.next;
      after = d.after;
      is = d.is;
      begins = along_begins strict pc 65279 d.prefix d.other d.along (on_step strict pc 65279 m.start m.after_byte_order_mark o h refl);
      others = λ l f a v q. start_others l c a d.prefix d.after v d.next y d.is q d.parted f;
    }

-- the two characters past ASCII that may stand nowhere
pub two_bad : (c : ℕ) → IsScalar c → 128 ≤ c → class c ≡ Bad → (c ≡ 65534) ⊎ (c ≡ 65535)
two_bad c s h e = let f = bad_char c e in elim (cases_lt c 65535) [
  | inl lt ↦ inl (grind (arith, nat_tests))
  | inr le ↦ inr (grind (arith, nat_tests))
]

encode_last : (c b : ℕ) (a : ℕ) (v : List ℕ) → encode_utf8 c ≡ 239 ∷ 191 ∷ b ∷ [] → encode_utf8 a ≡ 239 ∷ 191 ∷ b ∷ v → a ≡ c
encode_last c b a v e q = (encode_same a c [] v (append-nil (encode_utf8 a) ∙ q ∙ ap (λ z. z ++ v) (sym e))).0

pub encode_fffd : encode_utf8 65533 ≡ 239 ∷ 191 ∷ 189 ∷ []
unfolding encode_utf8
encode_fffd = refl

pub encode_fffe : encode_utf8 65534 ≡ 239 ∷ 191 ∷ 190 ∷ []
unfolding encode_utf8
encode_fffe = refl

pub encode_ffff : encode_utf8 65535 ≡ 239 ∷ 191 ∷ 191 ∷ []
unfolding encode_utf8
encode_ffff = refl

class_fffd : class 65533 ≡ Letter
unfolding class other_class
class_fffd = refl

bad_cut : (pc : List ℕ) (s : State) (o : List Event) (c b : ℕ) (y : Why) (u : State) → encode_utf8 c ≡ 239 ∷ 191 ∷ b ∷ [] → Leads strict m.start pc s o → step strict s Letter 65533 ≡ go u → Cut pc s c y
bad_cut pc s o c b y u e h g = record {
  prefix = 239 ∷ 191 ∷ [];
  next = b;
  after = [];
  is = e;
  begins = along_begins strict pc 65533 (239 ∷ 191 ∷ []) (189 ∷ []) encode_fffd (on_step strict pc 65533 s u o h (ap (λ k. step strict s k 65533) class_fffd ∙ g));
  others = λ l f a v q. let z = encode_last c b a v e q in subst (λ n. Dead l s (class n) n) (sym z) (ap is_dead f);
}

-- how far the bytes of a character lead that ends all documents, and that the reason tells it
pub record PartCut (pc : List ℕ) (s : State) (c n : ℕ) : Type 0 where
  pub cut : Cut pc s c (w.Partly n)
  pub size : length cut.prefix ≡ n

pub part_cut : (pc : List ℕ) (s : State) (o : List Event) (c n : ℕ) → IsScalar c → Leads strict m.start pc s o → TellsStart s c n ⊎ (TellsName s c n ⊎ TellsBad s (class c) c n) → PartCut pc s c n
unfolding start_cut name_cut bad_cut
part_cut pc s o c n i h (inl (e, f, g)) =
    let k = start_cut pc o c (w.Partly n) g (subst (λ u. Leads strict m.start pc u o) e h) in
    subst (λ u. PartCut pc u c n) (sym e) (record { cut = k; size = (apart 65279 c g).size ∙ sym f })
part_cut pc s o c n i h (inr (inl (ns, t, todo, e, f, g))) =
    let k = name_cut pc o c ns t todo (w.Partly n) g (subst (λ u. Leads strict m.start pc u o) e h) in
    subst (λ u. PartCut pc u c n) (sym e) (record { cut = k; size = (apart t c g).size ∙ sym f })
part_cut pc s o c n i h (inr (inr (u, k, j, f, g))) =
    elim (two_bad c i j k) [
      | inl z ↦ record { cut = bad_cut pc s o c 190 (w.Partly n) u (ap encode_utf8 z ∙ encode_fffe) h g; size = sym f }
      | inr z ↦ record { cut = bad_cut pc s o c 191 (w.Partly n) u (ap encode_utf8 z ∙ encode_ffff) h g; size = sym f }
    ]

-- no character that shares one byte more leads on
pub blocks : (l : Limits) (pc : List ℕ) (s : State) (o : List Event) (c : ℕ) (y : Why) (k : Cut pc s c y) → Leads l m.start pc s o → step l s (class c) c ≡ dead y → (a : ℕ) (v : List ℕ) → encode_utf8 a ≡ k.prefix ++ k.next ∷ v → Begins l (pc ++ a ∷ []) → ⊥
blocks l pc s o c y k h e a v q begins =
    let r = dead_from (step l s (class a) a) (k.others l e a v q) in
    x.dead_end l r.0 pc a begins.0 s o begins.1 h r.1 (subst (λ z. Document l z begins.1) (append_assoc pc (a ∷ []) begins.0) begins.2)

pub cut_longest : (pc : List ℕ) (s : State) (o : List Event) (c : ℕ) (rest : List ℕ) (y : Why) (k : Cut pc s c y) → Leads strict m.start pc s o → step strict s (class c) c ≡ dead y
    → IsLongestOf strict ((encode_utf8_all pc ++ k.prefix) ++ k.next ∷ (k.after ++ rest)) (encode_utf8_all pc ++ k.prefix)
cut_longest pc s o c rest y k h e = lifted strict pc c k.prefix k.next k.after rest k.is k.begins (blocks strict pc s o c y k h e)
