-- What looks like a table. Its columns may stand in another order than the options, so its ranks may be other options'.
use Rattle.std.specs.Prelude.{ℕ, ◌+◌, ◌-◌, ◌*◌, ◌==◌, Bool, false, ◌&&◌, ◌||◌, not, is_none, nat_le, nat_lt, List, [], ◌∷◌, codes, count_by, drop, filter, if◌then◌else◌, length, map, slice_index_or}
use Rattle.std.specs.Char.{to_ascii_lowercase}
use Rattle.std.specs.List.{list_all, list_any, range_with_len, slice_split}
use Rattle.std.specs.Str.{byte, bytes_eq}
use Rattle.vote_poll.specs.Names.{place_of}
use Rattle.vote_poll.specs.PollContent.{PollContent, option_count}
use Rattle.vote_poll_text.specs.Names.{is_within}
use Rattle.vote_hints.specs.FileKinds.{unmarked}
use Rattle.vote_hints.specs.Near.{edits_between}
use Rattle.vote_hints.specs.declared.TheConstants.{MAX_EDITS}
use Rattle.vote_poll_text.specs.Texts.{Text, line}

-- a comma, a semicolon or a tab
abbrev pub is_column_sign : ℕ → Bool
is_column_sign b = b == byte "," || (b == byte ";" || b == 9)

-- what parts words: one of these, or a blank
abbrev pub is_sign : ℕ → Bool
is_sign b = is_column_sign b || b == byte " "

-- the words of a line
abbrev pub words_of : Text → List Text
words_of bytes = filter (λ word. not (length word == 0)) (slice_split is_sign bytes)

-- the first of them, behind a byte-order mark
abbrev pub first_word : Text → Text
first_word bytes = slice_index_or (words_of (unmarked bytes)) 0 []

-- those behind the first
abbrev pub later_words : Text → List Text
later_words bytes = drop 1 (words_of bytes)

-- ---- lines of ranks
-- a hyphen, or one digit or two
abbrev pub is_rank : Text → Bool
is_rank (b ∷ []) = is_within (byte "0") (byte "9") b || b == byte "-"
is_rank (b ∷ c ∷ []) = is_within (byte "0") (byte "9") b && is_within (byte "0") (byte "9") c
is_rank other = false

-- the number of a rank, which is 0 of a hyphen
abbrev pub number_of : Text → ℕ
number_of (b ∷ []) = b - byte "0"
number_of (b ∷ c ∷ []) = 10 * (b - byte "0") + (c - byte "0")
number_of other = 0

-- how many of the words behind the first are ranks
abbrev pub rank_count : Text → ℕ
rank_count bytes = length (filter is_rank (later_words bytes))

-- behind the first word two ranks or more, and no other words
abbrev pub is_of_ranks : Text → Bool
is_of_ranks bytes = nat_le 2 (rank_count bytes) && length (later_words bytes) == rank_count bytes

-- behind the first word as many words as there are options, and each number of an option
abbrev pub has_each_rank : ℕ → Text → Bool
has_each_rank options bytes =
    length (words_of bytes) == options + 1 && list_all (λ option. list_any (λ word. number_of word == option) (later_words bytes)) (range_with_len 1 options)

-- this sign stands between any two words of the line: no part of the line without it has two
abbrev pub is_parted_by : Text → ℕ → Bool
is_parted_by bytes sign = list_all (λ part. nat_le (length (words_of part)) 1) (slice_split (λ b. b == sign) bytes)

-- the sign behind the first word is the one between all others: blanks alone, or one of the signs of columns
abbrev pub is_even : Text → Bool
is_even bytes = not (list_any is_column_sign bytes) || (is_parted_by bytes (byte ",") || (is_parted_by bytes (byte ";") || is_parted_by bytes 9))

-- ---- heads
-- what parts the columns of a head: one of these signs, or a stroke
abbrev pub is_head_sign : ℕ → Bool
is_head_sign b = is_column_sign b || (b == byte "|" || b == byte "/")

-- as many columns by this sign as there are options, or up to four more
abbrev pub has_columns : ℕ → Text → ℕ → Bool
has_columns options bytes sign = is_within options (options + 4) (count_by (λ b. b == sign) bytes + 1)

-- a word that only joins others: it heads no column
abbrev pub is_joining : Text → Bool
is_joining word = list_any (bytes_eq word) (
    codes "and" ∷ codes "by" ∷ codes "from" ∷ codes "of" ∷ codes "the" ∷ codes "das" ∷ codes "dem" ∷ codes "der" ∷ codes "des" ∷ codes "die" ∷ codes "und" ∷ codes "vom" ∷ codes "von"
    ∷ codes "del" ∷ codes "du" ∷ codes "las" ∷ codes "les" ∷ codes "los" ∷ [])

-- without any of these signs one word more than there are options, none of which only joins others
abbrev pub is_row_of_heads : ℕ → Text → Bool
is_row_of_heads options bytes = not (list_any is_head_sign bytes) && length (words_of bytes) == options + 1 && not (list_any is_joining (words_of bytes))

-- so many columns by one of the signs; or a head for each of them in words alone
abbrev pub has_heads : ℕ → Text → Bool
has_heads options bytes =
    (has_columns options bytes (byte ",") || (has_columns options bytes (byte ";") || (has_columns options bytes 9 || (has_columns options bytes (byte "|") || has_columns options bytes (byte "/")))))
    || is_row_of_heads options bytes

-- of the words behind the first at most half are ranks
abbrev pub has_few_ranks : Text → Bool
has_few_ranks bytes = nat_le (2 * rank_count bytes) (length (later_words bytes))

-- A line has the words of a head where it stands, of which is given whether a line of ranks is above it. Below one, a line of ranks is
-- no head; nor is any line if there are two options.
abbrev pub may_be_head : ℕ → Bool → Text → Bool
may_be_head options is_below bytes =
    if is_of_ranks bytes then not is_below && has_each_rank options bytes else (not (is_below && options == 2) && (has_few_ranks bytes && has_heads options bytes))

-- how many edits at most make a name of another that may be meant: with two most short names are near to each other
abbrev pub most_edits : Text → ℕ
most_edits name = if nat_le (length name) 3 then 1 else MAX_EDITS

-- a name on the roll is so near to the word that it may be meant
abbrev pub is_near_name : List Text → Text → Bool
is_near_name roll word = list_any (λ name. nat_le (edits_between word name) (most_edits word)) roll

-- the word is the name of no elector; nor, in a line of ranks, which may be a ballot with a wrong name, is a name near to it
abbrev pub is_nobody : List Text → Bool → Text → Bool
is_nobody roll are_ranks word = is_none (place_of word roll) && not (are_ranks && is_near_name roll word)

-- so is the first word of a line in small letters
abbrev pub names_nobody : PollContent → Text → Bool
names_nobody poll bytes = is_nobody poll.roll (is_of_ranks bytes) (map to_ascii_lowercase (first_word bytes))

-- a head where it stands
abbrev pub is_head : PollContent → Bool → Text → Bool
is_head poll is_below bytes = may_be_head (option_count poll) is_below bytes && names_nobody poll bytes

-- ---- lines of cells
abbrev pub is_quote : ℕ → Bool
is_quote b = b == 34

-- a rank in quotation marks
abbrev pub is_quoted_rank : Text → Bool
is_quoted_rank (a ∷ b ∷ c ∷ []) = is_quote a && (is_rank (b ∷ []) && is_quote c)
is_quoted_rank (a ∷ b ∷ c ∷ d ∷ []) = is_quote a && (is_rank (b ∷ c ∷ []) && is_quote d)
is_quoted_rank other = false

-- behind the first word two ranks or more in quotation marks, and no other words
abbrev pub is_of_cells : Text → Bool
is_of_cells bytes = list_any is_quote bytes && (nat_lt 2 (length (words_of bytes)) && list_all is_quoted_rank (later_words bytes))

-- two lines of cells or more
abbrev pub has_cells : List Text → Bool
has_cells lines = nat_le 2 (length (filter is_of_cells lines))

-- ---- files
-- Some line is a head where it stands, and a line of ranks is below it: the first line, or one of the others. Given is whether a line of
-- ranks is above all of them.
abbrev pub has_head : PollContent → Bool → List Text → Bool
has_head poll is_below [] = false
has_head poll is_below (bytes ∷ below) = (is_head poll is_below bytes && list_any is_of_ranks below) || has_head poll (is_below || is_of_ranks bytes) below

-- two lines of ranks or more; and in each of them one sign stands behind the first word and between all others
abbrev pub has_even_ranks : List Text → Bool
has_even_ranks lines = nat_le 2 (length (filter is_of_ranks lines)) && list_all is_even (filter is_of_ranks lines)

-- a file with these lines looks like a table if it has a head above a line of ranks, or lines of ranks that are even, or lines of cells
abbrev pub looks_like_table : PollContent → List Text → Bool
looks_like_table poll lines = has_head poll false lines || (has_even_ranks lines || has_cells lines)

-- it is said exactly of a file that looks like one
abbrev pub table_text : PollContent → List Text → Text
table_text poll lines =
    if looks_like_table poll lines
    then line (codes "the lines look like a table; its columns may stand in another order than the options" ∷ []) else []
