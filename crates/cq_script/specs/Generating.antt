-- The script that is made from two numbers: the one with which its draws begin, and how many orders it has.
use Rattle.std.specs.Prelude.{◌≡◌, ℕ, zero, suc, ◌+◌, ◌*◌, ◌/◌, ◌%◌, ◌^◌, List, [], ◌++◌, codes, decimal}

-- a linear congruential generator: its next state, and what a state draws below m
abbrev pub next : ℕ → ℕ
next x = (x * 1664525 + 1013904223) % (2 ^ 32)

abbrev pub draw : ℕ → ℕ → ℕ
draw m x = (x / 65536) % m

-- the state and the lines so far
pub record Drawn : Type 0 where
  pub x : ℕ
  pub lines : List ℕ

unfoldable pub customer_line : ℕ → ℕ → List ℕ
customer_line id region = decimal id ++ codes "\t" ++ decimal region ++ codes "\tc" ++ decimal id ++ codes "\n"

abbrev pub with_customer : Drawn → ℕ → Drawn
with_customer d id = record { x = next d.x; lines = d.lines ++ customer_line id (draw 4 (next d.x)) }

-- the first n customers, from 1
unfoldable pub customers : ℕ → ℕ → Drawn
customers x zero = record { x = x; lines = [] }
customers x (suc n) = with_customer (customers x n) (suc n)

unfoldable pub order_line : ℕ → ℕ → ℕ → List ℕ
order_line customer id amount = decimal customer ++ codes "\t" ++ decimal id ++ codes "\t" ++ decimal amount ++ codes "\n"

abbrev pub with_order : ℕ → Drawn → ℕ → Drawn
with_order count d id = record { x = next (next d.x); lines = d.lines ++ order_line (1 + draw count (next d.x)) id (draw 1000 (next (next d.x))) }

-- the first n orders, of so many customers
unfoldable pub orders : ℕ → ℕ → ℕ → Drawn
orders count x zero = record { x = x; lines = [] }
orders count x (suc n) = with_order count (orders count x n) (suc n)

unfoldable pub tables : List ℕ
tables = codes "CREATE TABLE customers (id bigint, region bigint, name text, PRIMARY KEY (id));\n"
    ++ codes "CREATE TABLE orders (customer bigint, id bigint, amount integer, PRIMARY KEY (customer, id));\n"
    ++ codes "CREATE TABLE regions (id bigint, name text, PRIMARY KEY (id));\n"
    ++ codes "SELECT create_distributed_table('customers', 'id');\n"
    ++ codes "SELECT create_distributed_table('orders', 'customer', colocate_with => 'customers');\n"
    ++ codes "SELECT create_reference_table('regions');\n"
    ++ codes "INSERT INTO regions VALUES (0,'north'),(1,'east'),(2,'south'),(3,'west');\n"

unfoldable pub listing : List ℕ
listing = codes "SELECT r.name, c.name AS customer, o.id, o.amount FROM orders o JOIN customers c ON o.customer = c.id JOIN regions r ON c.region = r.id ORDER BY o.amount DESC, o.id LIMIT 5;\n"

unfoldable pub rebalance : List ℕ
rebalance = codes "SELECT rebalance_table_shards(rebalance_strategy => 'by_disk_size');\n"

unfoldable pub count : List ℕ
count = codes "SELECT count(*) FROM orders;\n"

-- the listing before and after a rebalance, and a count
unfoldable pub queries : List ℕ
queries = listing ++ rebalance ++ listing ++ count

unfoldable pub customer_copy : ℕ → ℕ → List ℕ
customer_copy x n = codes "COPY customers FROM STDIN;\n" ++ (customers x n).lines ++ codes "\\.\n"

unfoldable pub order_copy : ℕ → ℕ → ℕ → List ℕ
order_copy m x n = codes "COPY orders FROM STDIN;\n" ++ (orders m x n).lines ++ codes "\\.\n"

-- a customer for ten orders, and one more
abbrev pub customer_count : ℕ → ℕ
customer_count rows = rows / 10 + 1

unfoldable pub copies : ℕ → ℕ → List ℕ
copies number rows = customer_copy number (customer_count rows) ++ order_copy (customer_count rows) (customers number (customer_count rows)).x rows

unfoldable pub generated : ℕ → ℕ → List ℕ
generated number rows = tables ++ copies number rows ++ queries

-- the bytes are that script, for readers who needn't look into it
pub data IsGenerated (number rows : ℕ) (bytes : List ℕ) : Type 0 where
  made : bytes ≡ generated number rows → IsGenerated number rows bytes
