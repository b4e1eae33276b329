-- Texts that are added piece by piece.
use Rattle.std.proofs.Common.{◌≡◌, ◌∙◌, ℕ, suc, ◌+◌, ◌<◌, Bool, true, false, List, [], ◌∷◌, ◌++◌, length, take, get_or}
use Rattle.std.proofs.Common.{decimal}
use Rattle.std.proofs.Common.{ap, sym, append_assoc, append-nil, flat_map}
use Rattle.std.specs.Bool.{if◌then◌else◌}
use Rattle.std.specs.List.{range_with_len}
use Rattle.std.proofs.lemmas.List.{take_more, flat_map_more}
use Rattle.flow_shop.proofs.Recurrence.{range-more}
use Rattle.flow_schedule.specs.declared.operations.Operation.{Operation}

-- two numbers, each after words
pub two-numbers : (out one two first second : List ℕ) (j k j' k' : ℕ) → one ≡ out ++ first ++ decimal j →
    two ≡ one ++ second ++ decimal k → j ≡ j' → k ≡ k' →
    two ≡ out ++ (first ++ decimal j' ++ second ++ decimal k')
two-numbers out one two first second j k j' k' is_one is_two same_j same_k =
    let regroup : out ++ first ++ decimal j ++ second ++ decimal k
    ≡ out ++ (first ++ decimal j ++ second ++ decimal k) = simp append_assoc in
    is_two ∙ ap (λ text. text ++ second ++ decimal k) is_one ∙ regroup
    ∙ ap (λ n. out ++ (first ++ decimal n ++ second ++ decimal k)) same_j
    ∙ ap (λ n. out ++ (first ++ decimal j' ++ second ++ decimal n)) same_k

-- words, a colour, and no more
pub style-plain : (out one two words colour colour' more : List ℕ) (b : Bool) → one ≡ out ++ words →
    two ≡ one ++ colour → colour ≡ colour' → b ≡ false →
    two ≡ out ++ (words ++ colour' ++ (if b then more else []))
style-plain out one two words colour colour' more b is_one is_two same no_more =
    let regroup : out ++ words ++ colour' ≡ out ++ (words ++ colour' ++ []) = simp (append_assoc, append-nil) in
    is_two ∙ ap (λ text. text ++ colour) is_one ∙ ap (λ text. out ++ words ++ text) same ∙ regroup
    ∙ ap (λ t. out ++ (words ++ colour' ++ (if t then more else []))) (sym no_more)

-- words, a colour, and more words
pub style-outlined : (out one two three words colour colour' more : List ℕ) (b : Bool) → one ≡ out ++ words →
    two ≡ one ++ colour → colour ≡ colour' → three ≡ two ++ more → b ≡ true →
    three ≡ out ++ (words ++ colour' ++ (if b then more else []))
style-outlined out one two three words colour colour' more b is_one is_two same is_three some_more =
    let regroup : out ++ words ++ colour' ++ more ≡ out ++ (words ++ colour' ++ more) = simp append_assoc in
    is_three ∙ ap (λ text. text ++ more) is_two ∙ ap (λ text. text ++ colour ++ more) is_one
    ∙ ap (λ text. out ++ words ++ text ++ more) same ∙ regroup
    ∙ ap (λ t. out ++ (words ++ colour' ++ (if t then more else []))) (sym some_more)

-- one more piece of a list
pub pieces-more : (f : Operation → List ℕ) (head out new : List ℕ) (items : List Operation) (i : ℕ)
    (other : Operation) → i < length items → out ≡ head ++ flat_map f (take i items) →
    new ≡ out ++ f (get_or items i other) → new ≡ head ++ flat_map f (take (i + 1) items)
pieces-more f head out new items i other low is more =
    more ∙ ap (λ text. text ++ f (get_or items i other)) is
    ∙ flat_map_more f head (take i items) (get_or items i other)
    ∙ ap (λ list. head ++ flat_map f list) (sym (take_more items i other low))

-- the text of one more number
pub numbers-more : (f : ℕ → List ℕ) (old items new : List ℕ) (first count next : ℕ) → first + count ≡ next →
    items ≡ old ++ flat_map f (range_with_len first count) → new ≡ items ++ f next →
    new ≡ old ++ flat_map f (range_with_len first (suc count))
numbers-more f old items new first count next here is more =
    more ∙ ap (λ text. text ++ f next) is ∙ flat_map_more f old (range_with_len first count) next
    ∙ ap (λ list. old ++ flat_map f list)
    (sym (range-more first count ∙ ap (λ k. range_with_len first count ++ k ∷ []) here))

-- words and a number
pub words-first : (out words : List ℕ) {items : List ℕ} {m n : ℕ} → items ≡ out ++ words ++ decimal m → m ≡ n →
    items ≡ out ++ (words ++ decimal n)
words-first out words {items} {m} {n} is same =
    is ∙ append_assoc out words (decimal m) ∙ ap (λ k. out ++ (words ++ decimal k)) same

-- words and a number after a text
pub words-next : (out text words : List ℕ) {before items : List ℕ} {m n : ℕ} → before ≡ out ++ text →
    items ≡ before ++ words ++ decimal m → m ≡ n → items ≡ out ++ (text ++ words ++ decimal n)
words-next out text words {before} {items} {m} {n} so_far is same =
    is ∙ ap (λ list. list ++ words ++ decimal m) so_far
    ∙ ap (λ list. list ++ decimal m) (append_assoc out text words) ∙ append_assoc out (text ++ words) (decimal m)
    ∙ ap (λ k. out ++ (text ++ words ++ decimal k)) same

-- a text after a text
pub text-next : (out text more : List ℕ) {before items : List ℕ} → before ≡ out ++ text → items ≡ before ++ more →
    items ≡ out ++ (text ++ more)
text-next out text more {before} {items} so_far is =
    is ∙ ap (λ list. list ++ more) so_far ∙ append_assoc out text more
