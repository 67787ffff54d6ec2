-- The input that a seed and a number of rows generate: a schema, the files of its two tables and three queries, for runs whose input
-- anyone can make again. The form is this project's own; numbers and dates are written as in a report, and lines end by a line feed.
use Rattle.std.specs.Prelude.{ℕ, zero, suc, pos, ◌+◌, ◌*◌, ◌/◌, ◌%◌, ◌^◌, ◌==◌, if◌then◌else◌, List, [], ◌∷◌, ◌++◌, codes, get_or}
use Rattle.std.specs.Fmt.{decimal}
use Rattle.qw_types.specs.NumberText.{decimal_text}

-- ---- the draws

-- the state behind one: Knuth's generator MMIX (The Art of Computer Programming, volume 2, 3.3.4), of 64 bits
unfoldable pub next : ℕ → ℕ
next state = (6364136223846793005 * state + 1442695040888963407) % 2 ^ 64

-- the draw that a state gives: its 31 highest bits
unfoldable pub draw_of : ℕ → ℕ
draw_of state = state / 2 ^ 33

-- the state after so many draws
unfoldable pub state_after : (seed draws : ℕ) → ℕ
state_after seed zero = seed
state_after seed (suc draws) = next (state_after seed draws)

-- the draw of a number, counted from 1
unfoldable pub drawn : (seed number : ℕ) → ℕ
drawn seed number = draw_of (state_after seed number)

-- ---- the file of SALE, by the draws of each row

abbrev pub shop_of : ℕ → ℕ
shop_of draw = draw % 20 + 1

-- hundredths; every tenth draw is of no price
abbrev pub price_text : ℕ → List ℕ
price_text draw = if draw % 10 == 0 then [] else decimal_text (pos (draw % 100000)) 2

-- the digits of a number below 100, both of them
abbrev pub two_digits : ℕ → List ℕ
two_digits number = decimal (number / 10) ++ decimal (number % 10)

-- the first 28 days of each month of 2000 to 2009, as YYYY-MM-DD
abbrev pub day_text : ℕ → List ℕ
day_text draw = decimal (2000 + draw % 10) ++ codes "-" ++ two_digits (draw / 10 % 12 + 1) ++ codes "-" ++ two_digits (draw / 120 % 28 + 1)

abbrev pub kind_text : ℕ → List ℕ
kind_text draw = get_or (codes "bolt" ∷ codes "nut" ∷ codes "gear" ∷ codes "pin" ∷ []) (draw % 4) []

-- the line of a sale, by its ID and its four draws
abbrev pub sale_line : (id shop price sold kind : ℕ) → List ℕ
sale_line id shop price sold kind =
    decimal id ++ codes "," ++ decimal (shop_of shop) ++ codes "," ++ price_text price ++ codes "," ++ day_text sold ++ codes "," ++ kind_text kind ++ codes "\n"

-- the line of a row, counted from 0, which takes the four draws behind those of the rows before
unfoldable pub sale_row : (seed row : ℕ) → List ℕ
sale_row seed row = sale_line (row + 1) (drawn seed (4 * row + 1)) (drawn seed (4 * row + 2)) (drawn seed (4 * row + 3)) (drawn seed (4 * row + 4))

unfoldable pub sale_rows : (seed rows : ℕ) → List ℕ
sale_rows seed zero = []
sale_rows seed (suc row) = sale_rows seed row ++ sale_row seed row

abbrev pub sale_text : (seed rows : ℕ) → List ℕ
sale_text seed rows = codes "ID,SHOP,PRICE,SOLD,KIND\n" ++ sale_rows seed rows

-- ---- the file of SHOP, which no draw changes

-- four cities in turn; shop 16 has none
abbrev pub city_text : ℕ → List ℕ
city_text id = if id == 16 then [] else codes "city" ++ decimal (id % 4)

abbrev pub shop_line : ℕ → List ℕ
shop_line id = decimal id ++ codes "," ++ city_text id ++ codes "\n"

unfoldable pub shop_rows : ℕ → List ℕ
shop_rows zero = []
shop_rows (suc row) = shop_rows row ++ shop_line (suc row)

unfoldable pub shop_text : List ℕ
shop_text = codes "ID,CITY\n" ++ shop_rows 16

-- ---- the schema and the queries

unfoldable pub schema_text : List ℕ
schema_text =
    codes "CREATE TABLE SALE (ID INTEGER NOT NULL, SHOP INTEGER NOT NULL, PRICE DECIMAL(9,2),\n"
    ++ codes "  SOLD DATE NOT NULL, KIND VARCHAR(8) NOT NULL);\n"
    ++ codes "CREATE TABLE SHOP (ID INTEGER NOT NULL, CITY VARCHAR(8));\n"

-- groups of one table; groups of a join; and the sales of shops that SHOP doesn't have
unfoldable pub queries_text : List ℕ
queries_text =
    codes "SELECT KIND, COUNT(*) AS N, SUM(PRICE) AS S FROM SALE GROUP BY KIND ORDER BY KIND;\n"
    ++ codes "SELECT CITY, COUNT(*) AS N, AVG(PRICE) AS A FROM SALE JOIN SHOP ON SALE.SHOP = SHOP.ID\n"
    ++ codes "  GROUP BY CITY ORDER BY CITY;\n"
    ++ codes "SELECT COUNT(*) AS N FROM SALE LEFT JOIN SHOP ON SALE.SHOP = SHOP.ID\n"
    ++ codes "  WHERE SHOP.ID IS NULL AND SOLD >= DATE '2005-01-01';\n"
