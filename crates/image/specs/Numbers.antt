-- The numbers that the paper fixes, each with one name.
use Rattle.std.specs.Prelude.{ℕ}

-- words of the trailer, and the format number in its last word
abbrev pub trailer_words : ℕ
trailer_words = 8

abbrev pub format_number : ℕ
format_number = 1

-- Classes below this one are the system's; an image has at least so many classes.
abbrev pub first_user_class : ℕ
first_user_class = 4

-- the ceilings
abbrev pub most_classes : ℕ
most_classes = 256

abbrev pub most_fields : ℕ
most_fields = 1024

abbrev pub most_methods : ℕ
most_methods = 1024

abbrev pub most_type_words : ℕ
most_type_words = 2048

abbrev pub most_nodes : ℕ
most_nodes = 4096

abbrev pub most_arguments : ℕ
most_arguments = 8

abbrev pub most_inputs : ℕ
most_inputs = 8

-- the highest name
abbrev pub highest_name : ℕ
highest_name = 65535

-- variables are numbered below this
abbrev pub variables : ℕ
variables = 64

-- a Value node's tag is below this: it holds no address
abbrev pub written_tags : ℕ
written_tags = 4
