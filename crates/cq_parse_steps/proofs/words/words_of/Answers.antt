use Rattle.std.proofs.Common.{arith, refl}
use Rattle.std.proofs.lemmas.Bool.{ne_eqb}
use Rattle.cq_grammar.specs.Words.{kind_of_word}
use Rattle.cq_parse_steps.proofs.words.words_of.Goals as goal

pub returns-in-97 : goal.returns-in-97
unfolding kind_of_word
returns-in-97 c = λ rest. rw c.in-97.is refl

pub returns-in-98 : goal.returns-in-98
unfolding kind_of_word
returns-in-98 c = λ rest. rw c.in-98.is refl

pub returns-in-99 : goal.returns-in-99
unfolding kind_of_word
returns-in-99 c = λ rest. rw c.in-99.is refl

pub returns-in-100 : goal.returns-in-100
unfolding kind_of_word
returns-in-100 c = λ rest. rw c.in-100.is refl

pub returns-in-101 : goal.returns-in-101
unfolding kind_of_word
returns-in-101 c = λ rest. rw c.in-101.is refl

pub returns-in-102 : goal.returns-in-102
unfolding kind_of_word
returns-in-102 c = λ rest. rw c.in-102.is refl

pub returns-in-103 : goal.returns-in-103
unfolding kind_of_word
returns-in-103 c = λ rest. rw c.in-103.is refl

pub returns-in-104 : goal.returns-in-104
unfolding kind_of_word
returns-in-104 c = λ rest. rw c.in-104.is refl

pub returns-in-105 : goal.returns-in-105
unfolding kind_of_word
returns-in-105 c = λ rest. rw c.in-105.is refl

pub returns-in-106 : goal.returns-in-106
unfolding kind_of_word
returns-in-106 c = λ rest. rw c.in-106.is refl

pub returns-in-107 : goal.returns-in-107
unfolding kind_of_word
returns-in-107 c = λ rest. rw c.in-107.is refl

pub returns-in-108 : goal.returns-in-108
unfolding kind_of_word
returns-in-108 c = λ rest. rw c.in-108.is refl

pub returns-in-109 : goal.returns-in-109
unfolding kind_of_word
returns-in-109 c = λ rest. rw c.in-109.is refl

pub returns-in-110 : goal.returns-in-110
unfolding kind_of_word
returns-in-110 c = λ rest. rw c.in-110.is refl

pub returns-in-111 : goal.returns-in-111
unfolding kind_of_word
returns-in-111 c = λ rest. rw c.in-111.is refl

pub returns-in-112 : goal.returns-in-112
unfolding kind_of_word
returns-in-112 c = λ rest. rw c.in-112.is refl

pub returns-in-114 : goal.returns-in-114
unfolding kind_of_word
returns-in-114 c = λ rest. rw c.in-114.is refl

pub returns-in-115 : goal.returns-in-115
unfolding kind_of_word
returns-in-115 c = λ rest. rw c.in-115.is refl

pub returns-in-116 : goal.returns-in-116
unfolding kind_of_word
returns-in-116 c = λ rest. rw c.in-116.is refl

pub returns-in-117 : goal.returns-in-117
unfolding kind_of_word
returns-in-117 c = λ rest. rw c.in-117.is refl

pub returns-in-118 : goal.returns-in-118
unfolding kind_of_word
returns-in-118 c = λ rest. rw c.in-118.is refl

pub returns-in-119 : goal.returns-in-119
unfolding kind_of_word
returns-in-119 c = λ rest. rw c.in-119.is refl

pub returns-in_default : goal.returns-in_default
unfolding kind_of_word
returns-in_default c = λ rest.
    rw (
      ne_eqb 97 c.args.first (λ e. omega (arith, c.in_default, e)),
      ne_eqb 98 c.args.first (λ e. omega (arith, c.in_default, e)),
      ne_eqb 99 c.args.first (λ e. omega (arith, c.in_default, e)),
      ne_eqb 100 c.args.first (λ e. omega (arith, c.in_default, e)),
      ne_eqb 101 c.args.first (λ e. omega (arith, c.in_default, e)),
      ne_eqb 102 c.args.first (λ e. omega (arith, c.in_default, e)),
      ne_eqb 103 c.args.first (λ e. omega (arith, c.in_default, e)),
      ne_eqb 104 c.args.first (λ e. omega (arith, c.in_default, e)),
      ne_eqb 105 c.args.first (λ e. omega (arith, c.in_default, e)),
      ne_eqb 106 c.args.first (λ e. omega (arith, c.in_default, e)),
      ne_eqb 107 c.args.first (λ e. omega (arith, c.in_default, e)),
      ne_eqb 108 c.args.first (λ e. omega (arith, c.in_default, e)),
      ne_eqb 109 c.args.first (λ e. omega (arith, c.in_default, e)),
      ne_eqb 110 c.args.first (λ e. omega (arith, c.in_default, e)),
      ne_eqb 111 c.args.first (λ e. omega (arith, c.in_default, e)),
      ne_eqb 112 c.args.first (λ e. omega (arith, c.in_default, e)),
      ne_eqb 114 c.args.first (λ e. omega (arith, c.in_default, e)),
      ne_eqb 115 c.args.first (λ e. omega (arith, c.in_default, e)),
      ne_eqb 116 c.args.first (λ e. omega (arith, c.in_default, e)),
      ne_eqb 117 c.args.first (λ e. omega (arith, c.in_default, e)),
      ne_eqb 118 c.args.first (λ e. omega (arith, c.in_default, e)),
      ne_eqb 119 c.args.first (λ e. omega (arith, c.in_default, e)),
    ) refl
