mod Rule
