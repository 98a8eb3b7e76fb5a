-- One more line.
use Rattle.std.proofs.Common.{◌≡◌, ◌+◌, ℕ, List, ◌++◌, add-one, refl, ap, ap₂, ◌∙◌, sym, append-nil, append_assoc}
use Rattle.cq_script.specs.Generating.{customers, customer_line, draw, next, orders, order_line, with_customer, with_order}

customers_more : (x n : ℕ) → customers x (n + 1) ≡ with_customer (customers x n) (n + 1)
unfolding customers
customers_more x n = rw add-one refl

orders_more : (count x n : ℕ) → orders count x (n + 1) ≡ with_order count (orders count x n) (n + 1)
unfolding orders
orders_more count x n = rw add-one refl

pub no_customer : (x : ℕ) (before : List ℕ) → (x ≡ (customers x 0).x) × (before ≡ before ++ (customers x 0).lines)
unfolding customers
no_customer x before = (refl, sym (append-nil before))

pub no_order : (count x : ℕ) (before : List ℕ) → (x ≡ (orders count x 0).x) × (before ≡ before ++ (orders count x 0).lines)
unfolding orders
no_order count x before = (refl, sym (append-nil before))

pub one_customer : (before out after : List ℕ) (first x y n region : ℕ) → (x ≡ (customers first n).x) × (out ≡ before ++ (customers first n).lines) → y ≡ next x → region ≡ draw 4 (next x) →
    after ≡ out ++ customer_line (n + 1) region → (y ≡ (customers first (n + 1)).x) × (after ≡ before ++ (customers first (n + 1)).lines)
one_customer before out after first x y n region h state value put = rw (customers_more first n) (
  state ∙ ap next h.0,
  put ∙ ap₂ (λ o r. o ++ customer_line (n + 1) r) h.1 (value ∙ ap (λ v. draw 4 (next v)) h.0)
      ∙ append_assoc before (customers first n).lines (customer_line (n + 1) (draw 4 (next (customers first n).x))),
)

pub one_order : (before out after : List ℕ) (count first x y z n customer amount : ℕ) → (x ≡ (orders count first n).x) × (out ≡ before ++ (orders count first n).lines) → y ≡ next x → z ≡ next y →
    customer ≡ 1 + draw count (next x) → amount ≡ draw 1000 (next y) → after ≡ out ++ order_line customer (n + 1) amount →
    (z ≡ (orders count first (n + 1)).x) × (after ≡ before ++ (orders count first (n + 1)).lines)
one_order before out after count first x y z n customer amount h one two first_value second_value put =
    let at_one : y ≡ next (orders count first n).x = one ∙ ap next h.0 in
    let of : customer ≡ 1 + draw count (next (orders count first n).x) = first_value ∙ ap (λ v. 1 + draw count (next v)) h.0 in
    let much : amount ≡ draw 1000 (next (next (orders count first n).x)) = second_value ∙ ap (λ v. draw 1000 (next v)) at_one in
    rw (orders_more count first n) (
      two ∙ ap next at_one,
      put ∙ ap (λ o. o ++ order_line customer (n + 1) amount) h.1
          ∙ append_assoc before (orders count first n).lines (order_line customer (n + 1) amount)
          ∙ ap₂ (λ c a. before ++ ((orders count first n).lines ++ order_line c (n + 1) a)) of much,
    )
