-- A builder over the events makes the nodes of the tree.
use Rattle.std.proofs.Common.{◌≡◌, ℕ, ◌+◌, List, [], ◌∷◌, ◌++◌, length, refl, sym, ap, ◌∙◌, arith, append_assoc, length-append, Option, Some, None}
use Rattle.std.proofs.lemmas.List.{append-nil}
use Rattle.doc_grammar.specs.Grammar.{Content, done, char, reference, comment, instruction, section, empty, element, Event, close, events}
use Rattle.doc_grammar.specs.Nodes.{Node, tag_node, count, nodes_under, innermost, nodes_after, nodes_of}

under_length : (c : Content) (p : Option ℕ) (n : ℕ) → length (nodes_under c p n) ≡ count c
under_length done p n = refl
under_length (char b c) p n = under_length c p n
under_length (reference r c) p n = under_length c p n
under_length (instruction y t c) p n = under_length c p n
under_length (section t c) p n = under_length c p n
under_length (comment t c) p n = under_length c p n
under_length (empty t c) p n = let h = under_length c p (n + 1) in omega (arith, h)
under_length (element t kids gap c) p n =
    let h = under_length kids (Some n) (n + 1) in
    let k = under_length c p (n + 1 + count kids) in
    omega (arith, h, k, length-append (nodes_under kids (Some n) (n + 1)) (nodes_under c p (n + 1 + count kids)))

push_length : (es : List Node) (e : Node) → length (es ++ e ∷ []) ≡ length es + 1
push_length es e = omega (arith, length-append es (e ∷ []))

pub after_under : (c : Content) (more : List Event) (ns : List ℕ) (es : List Node) → nodes_after (events c more) ns es ≡ nodes_after more ns (es ++ nodes_under c (innermost ns) (length es))
after_under done more ns es = ap (nodes_after more ns) (sym (append-nil es))
after_under (char b c) more ns es = after_under c more ns es
after_under (reference r c) more ns es = after_under c more ns es
after_under (instruction y t c) more ns es = after_under c more ns es
after_under (section t c) more ns es = after_under c more ns es
after_under (comment t c) more ns es = after_under c more ns es
after_under (empty t c) more ns es =
    let e = tag_node t (innermost ns) in
    after_under c more ns (es ++ e ∷ [])
    ∙ ap (nodes_after more ns) (append_assoc es (e ∷ []) (nodes_under c (innermost ns) (length (es ++ e ∷ []))) ∙ ap (λ n. es ++ e ∷ nodes_under c (innermost ns) n) (push_length es e))
after_under (element t kids gap c) more ns es =
    let e = tag_node t (innermost ns) in
    let n = length es in
    let es1 = es ++ e ∷ [] in
    let k1 = nodes_under kids (Some n) (length es1) in
    let es2 = es1 ++ k1 in
    let l1 : length es1 ≡ n + 1 = push_length es e in
    let l2 : length es2 ≡ n + 1 + count kids = (let a = length-append es1 k1 in let b = under_length kids (Some n) (length es1) in omega (arith, a, b, l1)) in
    after_under kids (close ∷ events c more) (n ∷ ns) es1
    ∙ after_under c more ns es2
    ∙ ap (nodes_after more ns) (ap (λ z. es2 ++ nodes_under c (innermost ns) z) l2
    ∙ append_assoc es1 k1 (nodes_under c (innermost ns) (n + 1 + count kids))
    ∙ append_assoc es (e ∷ []) (k1 ++ nodes_under c (innermost ns) (n + 1 + count kids))
    ∙ ap (λ z. es ++ e ∷ (nodes_under kids (Some n) z ++ nodes_under c (innermost ns) (n + 1 + count kids))) l1)

pub ordered : (c : Content) → nodes_of (events c []) ≡ nodes_under c None 0
ordered c = after_under c [] [] []
