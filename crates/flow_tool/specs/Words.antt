-- What the words of a command line mean.
use Rattle.std.specs.Prelude.{◌≡◌, ◌||◌, ℕ, Bool, true, Any, List, map, codes, string_bytes, Result, Ok, Err}
use Rattle.std.specs.Str.{bytes_eq}
use Rattle.flow_requests.specs.declared.Invocation.{Invocation}
use Rattle.std.specs.declared.vec.Vec.{Vec}
use Rattle.flow_tool.specs.declared.refusal.Stop.{Stop}
use Rattle.flow_tool.specs.declared.words.Asked.{Asked}
use Rattle.flow_tool.specs.declared.words.Asked.TheVariants.{Explain, Run}

-- what words mean: what they ask for, which text explains them, and which are no command line
pub record Meaning : Type 1 where
  pub asks : List (List ℕ) → Invocation → Type 0
  pub explains : List (List ℕ) → List ℕ → Type 0
  pub refused : List (List ℕ) → Type 0

-- a word that asks for help or the version
abbrev pub asks_for_help : List ℕ → Bool
asks_for_help word =
    bytes_eq word (codes "help") || bytes_eq word (codes "--help") || bytes_eq word (codes "-h")
    || bytes_eq word (codes "--version") || bytes_eq word (codes "-V")

-- some word asks for help or the version
abbrev pub AskForHelp : List (List ℕ) → Type 0
AskForHelp = Any (λ word. asks_for_help word ≡ true)

-- a meaning of which it is only known that no words are explained but those of which one asks for it
abbrev pub little_known : Meaning
little_known = record {
  asks = λ _ _. Unit {0};
  explains = λ words _. AskForHelp words;
  refused = λ _. Unit {0};
}

-- words ask for this
abbrev pub IsAsked : Meaning → List (List ℕ) → Asked → Type 0
IsAsked meaning words (Run invocation) = meaning.asks words invocation
IsAsked meaning words (Explain text) = meaning.explains words (string_bytes text)

-- the texts of words, where they are given
abbrev pub texts_of : {W A : Type 0} → (W → List ℕ) → Result (Vec W A) Stop → Result (List (List ℕ)) Stop
texts_of text (Ok words) = Ok (map text words.items)
texts_of text (Err stop) = Err stop
