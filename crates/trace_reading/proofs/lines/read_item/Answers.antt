use Rattle.std.proofs.Common.{arith, ◌≡◌, ℕ, ◌<◌, ◌^◌, List, sym, ap, ◌∙◌, Some, Option}
use Rattle.system_model.specs.declared.plan.EndKind.{EndKind}
use Rattle.trace_reading.specs.declared.trace.TraceLine.TheVariants.{At, Value}
use Rattle.trace_reading.specs.declared.item.Item.{Item}
use Rattle.trace_reading.specs.declared.item.Item.TheVariants.{Row, End}
use Rattle.system_model.specs.Text.{at_line, end_line}
use Rattle.trace_reading.specs.Walk.{item_line, IsShortItem}
use Rattle.trace_reading.proofs.ListLemmas.{heads, unsome}
use Rattle.trace_reading.proofs.LineLemmas.{begins_with_digit}
use Rattle.trace_reading.proofs.lines.read_item.Goals as goal

pairs : {A B : Type 0} (a c : A) (b d : B) → ◌≡◌ {A = A × B} (a, b) (c, d) → (a ≡ c) × (b ≡ d)
pairs {A} {B} a c b d e = (ap (λ (p : A × B). p.0) e, ap (λ (p : A × B). p.1) e)

at_one : (line : List ℕ) (found : Option (ℕ × ℕ)) (t n : ℕ) → found ≡ Some (t, n) → line ≡ at_line t n → ((t n : ℕ) → t < 2 ^ 64 → n < 2 ^ 64 → line ≡ at_line t n → found ≡ Some (t, n)) → (item : Item) → IsShortItem item → line ≡ item_line item → Some (Row (At t n)) ≡ Some item
at_one line found t n is e exact (Row (At t2 n2)) short f =
    let same = pairs t t2 n n2 (unsome _ _ (sym is ∙ exact t2 n2 short.0 short.1 f)) in
    cc (same.0, same.1)
at_one line found t n is e exact (Row (Value port value)) short f =
    absurd (begins_with_digit port 97 _ _ short.0 (omega arith) (sym f ∙ e))
at_one line found t n is e exact (End kind t2) short f =
    absurd (omega (arith, heads 97 101 _ _ (sym e ∙ f)))

end_one : (line : List ℕ) (found : Option (EndKind × ℕ)) (kind : EndKind) (t : ℕ) → found ≡ Some (kind, t) → line ≡ end_line kind t → ((kind : EndKind) (t : ℕ) → t < 2 ^ 64 → line ≡ end_line kind t → found ≡ Some (kind, t)) → (item : Item) → IsShortItem item → line ≡ item_line item → Some (End kind t) ≡ Some item
end_one line found kind t is e exact (Row (At t2 n2)) short f =
    absurd (omega (arith, heads 101 97 _ _ (sym e ∙ f)))
end_one line found kind t is e exact (Row (Value port value)) short f =
    absurd (begins_with_digit port 101 _ _ short.0 (omega arith) (sym f ∙ e))
end_one line found kind t is e exact (End kind2 t2) short f =
    let same = pairs kind kind2 t t2 (unsome _ _ (sym is ∙ exact kind2 t2 short f)) in
    cc (same.0, same.1)

pub returns-in-Some-clause-exact : goal.returns-in-Some-clause-exact
returns-in-Some-clause-exact c = λ item short e.
    at_one c.args.line.now c.read_at.result c.in-Some.t c.in-Some.n c.in-Some.is c.in-Some.ensures.found c.read_at.ensures.exact item short e

pub returns-in-Some-read_end-clause-exact : goal.returns-in-Some-read_end-clause-exact
returns-in-Some-read_end-clause-exact c = λ item short e.
    end_one c.args.line.now c.read_end.result c.in-Some-read_end.kind c.in-Some-read_end.t c.in-Some-read_end.is c.in-Some-read_end.ensures.found c.read_end.ensures.exact item short e
